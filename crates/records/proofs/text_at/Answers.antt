-- `records::text_at` meets its contract. Assumes nothing.
use Rattle.records.proofs.Lookup.{text-past, text-short, text-there}
use Rattle.records.proofs.text_at.Goals as goal
use Rattle.records.proofs.text_at.Goals.{else-from-file-via-then-from-file+else-n-file, else-from-file-via-else-from-file}

pub returns-then-n-file : goal.returns-then-n-file
returns-then-n-file c = search text-there

pub returns-else-from-file : goal.returns-else-from-file
returns-else-from-file c =
    elim c.else-from-file.branch [
      | else-from-file-via-then-from-file+else-n-file w ↦ search text-short
      | else-from-file-via-else-from-file w ↦ search text-past
    ]
