-- `no_manifest` meets its contract. Assumes nothing.
use Rattle.listed.proofs.manifests.no_manifest.Goals as goal

pub returns : goal.returns
returns c = rw (c.number.ensures, c.place.ensures)
