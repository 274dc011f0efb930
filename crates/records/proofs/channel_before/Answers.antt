-- `records::channel_before` meets its contract. Assumes nothing.
use Rattle.lines.proofs.Ends.{line-room}
use Rattle.day.proofs.Find.{line-less}
use Rattle.records.proofs.Lookup.{channel-begins, channel-there, channel-ends, channel-own, channel-kept}
use borrow.Author.Rules.{rules}
use Rattle.records.proofs.channel_before.Goals as goal

pub loop-at-init : goal.loop-at-init
loop-at-init c = (search rules, search channel-begins)

pub returns-then-e-file : goal.returns-then-e-file
returns-then-e-file c = search channel-ends

pub loop-at-smaller-then-kind_at-eq200 : goal.loop-at-smaller-then-kind_at-eq200
loop-at-smaller-then-kind_at-eq200 c = search line-less

pub loop-at-preserved-then-kind_at-eq200 : goal.loop-at-preserved-then-kind_at-eq200
loop-at-preserved-then-kind_at-eq200 c = (search line-room, search channel-own)

pub loop-at-smaller : goal.loop-at-smaller
loop-at-smaller c = search line-less

pub loop-at-preserved : goal.loop-at-preserved
loop-at-preserved c = (search line-room, search channel-kept)

pub returns : goal.returns
returns c = search channel-there
