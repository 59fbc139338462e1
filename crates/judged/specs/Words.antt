-- Domains by their words and numbers. Assumes nothing.
use Rattle.std.specs.Prelude.{ℕ, ltb}
use Rattle.refusal.specs.Pick.{pick}
use Rattle.refusal.specs.Slug.{slug_of}
use Rattle.domains.specs.Domain.{Perhaps, nothing, just, slug}
use Rattle.judged.specs.Compares.{word_told}
use Rattle.judged.specs.declared.compares.NameTold.{NameTold}

-- a domain's number, 7 where there is no domain
abbrev pub perhaps_number : Perhaps → ℕ
perhaps_number (just d) = d
perhaps_number nothing = 7

-- of a domain's word, its length and byte k; a number above 6 has no word
abbrev pub domain_told : ℕ → ℕ → NameTold
domain_told d k = pick (ltb d 7) (word_told (slug_of (slug d)) k) (record { len = 0; byte = 0 })
