-- `judged_u8` meets its contract. Assumes nothing.
use Rattle.std.proofs.Common.{rules, ◌≡◌, ◌∙◌, ap}
use Rattle.leb.specs.Answers.{finding_of, said_read}
use Rattle.leb.proofs.Answering.{heard-from}
use Rattle.told.specs.Reading.{unsigned_told}
use Rattle.judged.proofs.cursors.judged_u8.Goals as goal

pub returns : goal.returns
returns c =
    let wide : said_read c.map.result ≡ said_read c.u8.result = search rules in
    c.unsigned_of.ensures ∙ ap unsigned_told (ap finding_of (wide ∙ c.u8.ensures) ∙ heard-from _ _)
