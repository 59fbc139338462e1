-- No two answers, and no two final contents of the buffer, satisfy the promises of `put`, `put_domain` and the writers of reasons.
-- Assumes nothing.
use Rattle.std.specs.Prelude.{◌≡◌}
use Rattle.std.proofs.Common.{sym, ◌∙◌}
use contract.Lifetimes.{Lfts}
use borrow.Fn.Kinds.{Dens, res_t, ended_of}
use denote.Triple.Clauses.{AtExit}
use Rattle.output.proofs.Known.{one_answer, one-output, one-answer-from}
use Rattle.output.proofs.bytes.put.Kinds as put-kinds
use Rattle.output.proofs.bytes.put.Reads as put
use Rattle.output.proofs.bytes.put_domain.Kinds as put-domain-kinds
use Rattle.output.proofs.bytes.put_domain.Reads as put-domain
use Rattle.output.proofs.bytes.Writer.counting.Kinds as counting-kinds
use Rattle.output.proofs.bytes.Writer.counting.Reads as counting
use Rattle.output.proofs.bytes.Writer.writing.Kinds as writing-kinds
use Rattle.output.proofs.bytes.Writer.writing.Reads as writing
use Rattle.output.proofs.bytes.Writer.put.Kinds as writer-put-kinds
use Rattle.output.proofs.bytes.Writer.put.Reads as writer-put
use Rattle.output.proofs.bytes.Writer.put_domain.Kinds as writer-put-domain-kinds
use Rattle.output.proofs.bytes.Writer.put_domain.Reads as writer-put-domain
use Rattle.reasons.proofs.reasons_from.Kinds as reasons-from-kinds
use Rattle.reasons.proofs.reasons_from.Reads as reasons-from
use Rattle.reasons.proofs.breaking_reasons.Kinds as breaking-reasons-kinds
use Rattle.reasons.proofs.breaking_reasons.Reads as breaking-reasons
use Rattle.promises.specs.Decides.{Decides}

pub put-decides : Decides put-kinds.ps put-kinds.r put.Post
put-decides κs a x y s t p q = p.next-is ∙ sym q.next-is

pub put-domain-decides : Decides put-domain-kinds.ps put-domain-kinds.r put-domain.Post
put-domain-decides κs a x y s t p q = p.next-is ∙ sym q.next-is

-- which buffer a writer has, its bytes, the place, and whether what is put is written
pub counting-decides : (κs : Lfts 1) (a : Dens κs counting-kinds.ps) (x y : (res_t counting-kinds.r κs).Denot)
    (s t : AtExit (ended_of 1 counting-kinds.ps counting-kinds.r) κs) → counting.Post κs a x s → counting.Post κs a y t
    → (x.out.now ≡ y.out.now) × (x.out.ghost_name ≡ y.out.ghost_name) × (x.at ≡ y.at) × (x.go ≡ y.go)
counting-decides κs a x y s t p q =
    (p.1.0 ∙ sym q.1.0, p.0 ∙ sym q.0, p.1.1 ∙ sym q.1.1, p.1.2 ∙ sym q.1.2)

pub writing-decides : (κs : Lfts 1) (a : Dens κs writing-kinds.ps) (x y : (res_t writing-kinds.r κs).Denot)
    (s t : AtExit (ended_of 1 writing-kinds.ps writing-kinds.r) κs) → writing.Post κs a x s → writing.Post κs a y t
    → (x.out.now ≡ y.out.now) × (x.out.ghost_name ≡ y.out.ghost_name) × (x.at ≡ y.at) × (x.go ≡ y.go)
writing-decides κs a x y s t p q =
    (p.1.0 ∙ sym q.1.0, p.0 ∙ sym q.0, p.1.1 ∙ sym q.1.1, p.1.2 ∙ sym q.1.2)

-- the same of a writer that was put to
module _ (κs : Lfts 3) (a : Dens κs writer-put-kinds.ps) (x y : (res_t writer-put-kinds.r κs).Denot)
    (s t : AtExit (ended_of 3 writer-put-kinds.ps writer-put-kinds.r) κs) (p : writer-put.Post κs a x s)
    (q : writer-put.Post κs a y t) where
  pub writer-put-left : (s.0.now.out.now ≡ t.0.now.out.now) × (s.0.now.out.ghost_name ≡ t.0.now.out.ghost_name)
      × (s.0.now.at ≡ t.0.now.at) × (s.0.now.go ≡ t.0.now.go)
  writer-put-left = (p.1.0.output-is ∙ sym q.1.0.output-is, p.0 ∙ sym q.0, p.1.0.next-is ∙ sym q.1.0.next-is, p.1.1.same ∙ sym q.1.1.same)

module _ (κs : Lfts 2) (a : Dens κs writer-put-domain-kinds.ps) (x y : (res_t writer-put-domain-kinds.r κs).Denot)
    (s t : AtExit (ended_of 2 writer-put-domain-kinds.ps writer-put-domain-kinds.r) κs) (p : writer-put-domain.Post κs a x s)
    (q : writer-put-domain.Post κs a y t) where
  pub writer-put-domain-left : (s.0.now.out.now ≡ t.0.now.out.now) × (s.0.now.out.ghost_name ≡ t.0.now.out.ghost_name)
      × (s.0.now.at ≡ t.0.now.at) × (s.0.now.go ≡ t.0.now.go)
  writer-put-domain-left =
      (p.1.0.output-is ∙ sym q.1.0.output-is, p.0 ∙ sym q.0, p.1.0.next-is ∙ sym q.1.0.next-is, p.1.1.same ∙ sym q.1.1.same)

pub breaking-reasons-decides : Decides breaking-reasons-kinds.ps breaking-reasons-kinds.r breaking-reasons.Post
breaking-reasons-decides κs a x y s t p q = one_answer p q

pub reasons-from-decides : Decides reasons-from-kinds.ps reasons-from-kinds.r reasons-from.Post
reasons-from-decides κs a x y s t p q = one-answer-from p q

-- every byte of the buffer
module _ (κs : Lfts 2) (a : Dens κs put-kinds.ps) (x y : (res_t put-kinds.r κs).Denot)
    (s t : AtExit (ended_of 2 put-kinds.ps put-kinds.r) κs) (p : put.Post κs a x s) (q : put.Post κs a y t) where
  pub put-left : s.0.now ≡ t.0.now
  put-left = p.output-is ∙ sym q.output-is

module _ (κs : Lfts 1) (a : Dens κs put-domain-kinds.ps) (x y : (res_t put-domain-kinds.r κs).Denot)
    (s t : AtExit (ended_of 1 put-domain-kinds.ps put-domain-kinds.r) κs) (p : put-domain.Post κs a x s)
    (q : put-domain.Post κs a y t) where
  pub put-domain-left : s.0.now ≡ t.0.now
  put-domain-left = p.output-is ∙ sym q.output-is

module _ (κs : Lfts 6) (a : Dens κs breaking-reasons-kinds.ps) (x y : (res_t breaking-reasons-kinds.r κs).Denot)
    (s t : AtExit (ended_of 6 breaking-reasons-kinds.ps breaking-reasons-kinds.r) κs) (p : breaking-reasons.Post κs a x s)
    (q : breaking-reasons.Post κs a y t) where
  pub reasons-left : s.1.1.1.0.now ≡ t.1.1.1.0.now
  reasons-left = one-output p q

module _ (κs : Lfts 6) (a : Dens κs reasons-from-kinds.ps) (x y : (res_t reasons-from-kinds.r κs).Denot)
    (s t : AtExit (ended_of 6 reasons-from-kinds.ps reasons-from-kinds.r) κs) (p : reasons-from.Post κs a x s)
    (q : reasons-from.Post κs a y t) where
  pub reasons-from-left : s.1.1.1.0.now ≡ t.1.1.1.0.now
  reasons-from-left = p.output ∙ sym q.output
