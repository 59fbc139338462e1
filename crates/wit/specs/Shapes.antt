-- For the laws of other crates, which cannot name what the private modules of src/ declare. Assumes nothing.
use Rattle.wit.specs.declared.rows.Reference as reference

abbrev pub Reference : Type 0
Reference = reference.Reference
