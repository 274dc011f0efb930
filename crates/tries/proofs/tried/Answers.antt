-- `tries::tried` meets its contract. Assumes nothing.
use Rattle.tries.proofs.Holds.{ended-nmi, ended-suffix, ended-stream, ended-unit, ended-direction, ended-date, ended-next, ended-time, ended-load, ended-quality, ended-reason, ended-description}
use Rattle.tries.proofs.tried.Goals as goal

pub returns-in-Nmi : goal.returns-in-Nmi
returns-in-Nmi c = search ended-nmi

pub returns-in-Suffix : goal.returns-in-Suffix
returns-in-Suffix c = search ended-suffix

pub returns-in-Stream : goal.returns-in-Stream
returns-in-Stream c = search ended-stream

pub returns-in-Unit : goal.returns-in-Unit
returns-in-Unit c = search ended-unit

pub returns-in-Direction : goal.returns-in-Direction
returns-in-Direction c = search ended-direction

pub returns-in-Date : goal.returns-in-Date
returns-in-Date c = search ended-date

pub returns-in-NextRead : goal.returns-in-NextRead
returns-in-NextRead c = search ended-next

pub returns-in-Time : goal.returns-in-Time
returns-in-Time c = search ended-time

pub returns-in-Load : goal.returns-in-Load
returns-in-Load c = search ended-load

pub returns-in-Quality : goal.returns-in-Quality
returns-in-Quality c = search ended-quality

pub returns-in-Reason : goal.returns-in-Reason
returns-in-Reason c = search ended-reason

pub returns-in-Description : goal.returns-in-Description
returns-in-Description c = search ended-description
