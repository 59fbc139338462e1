-- The claims of specs/Claims. Assumes nothing.
use Rattle.leb.specs.Claims.{AgainstSpecification}
use Rattle.leb.proofs.Conform.{u64-read, u64-only, u32-read, s64-read}
use Rattle.leb.proofs.Beyond.{u32-long, u32-only, s64-mended, s64-only}
use Rattle.leb.proofs.Names.{name-read, name-only}

pub against-specification : AgainstSpecification
against-specification =
    record {
      u64-read = u64-read;
      u64-only = u64-only;
      u32-read = u32-read;
      u32-long = u32-long;
      u32-only = u32-only;
      s64-read = s64-read;
      s64-mended = s64-mended;
      s64-only = s64-only;
      name-read = name-read;
      name-only = name-only;
    }
