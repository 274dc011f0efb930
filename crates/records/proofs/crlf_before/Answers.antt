-- `records::crlf_before` meets its contract. Assumes nothing.
use native.Mathlib.Omega.{arith}
use Rattle.records.specs.Records.{crlf_before}
use Rattle.ground.proofs.Tests.{tests}
use Rattle.records.proofs.Lookup.{past-file}
use Rattle.records.proofs.crlf_before.Goals as goal
use Rattle.records.proofs.crlf_before.Goals.{then-at-lt2-via-then-at-lt2, then-at-lt2-via-else-at-lt2+then-file-at}

pub returns-then-at-lt2 : goal.returns-then-at-lt2
unfolding crlf_before
returns-then-at-lt2 c =
    elim c.then-at-lt2.branch [
      | then-at-lt2-via-then-at-lt2 w ↦ search (tests, arith)
      | then-at-lt2-via-else-at-lt2+then-file-at w ↦ past-file c.args.file.now c.args.at w.if-file-at.true
    ]

pub returns-then-file-at-eq13 : goal.returns-then-file-at-eq13
unfolding crlf_before
returns-then-file-at-eq13 c = search (tests, arith)

pub returns-else-file-at-eq13 : goal.returns-else-file-at-eq13
unfolding crlf_before
returns-else-file-at-eq13 c = search (tests, arith)
