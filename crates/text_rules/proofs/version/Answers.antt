-- `text_rules::version` meets its contract. Assumes nothing.
use Rattle.text_rules.proofs.Cases.{version-12, version-13, version-none}
use Rattle.text_rules.proofs.version.Goals as goal

pub returns-then-same_bytes : goal.returns-then-same_bytes
returns-then-same_bytes c = search (version-12, version-13, version-none)

pub returns-then-same_bytes-2 : goal.returns-then-same_bytes-2
returns-then-same_bytes-2 c = search (version-12, version-13, version-none)

pub returns : goal.returns
returns c = search (version-12, version-13, version-none)
