-- `rows::obeys` meets its contract. Assumes nothing.
use Rattle.format.specs.Records.{obeys}
use Rattle.rows.proofs.Rows.{obeys-is, obeys-number, obeys-value, obeys-graded}
use Rattle.rows.proofs.obeys.Goals as goal

pub returns-in-Indicator : goal.returns-in-Indicator
unfolding obeys
returns-in-Indicator c = search (obeys-is, obeys-number, obeys-value, obeys-graded)

pub returns-in-Version : goal.returns-in-Version
unfolding obeys
returns-in-Version c = search (obeys-is, obeys-number, obeys-value, obeys-graded)

pub returns-in-Created : goal.returns-in-Created
unfolding obeys
returns-in-Created c = search (obeys-is, obeys-number, obeys-value, obeys-graded)

pub returns-in-Party : goal.returns-in-Party
unfolding obeys
returns-in-Party c = search (obeys-is, obeys-number, obeys-value, obeys-graded)

pub returns-in-Nmi : goal.returns-in-Nmi
unfolding obeys
returns-in-Nmi c = search (obeys-is, obeys-number, obeys-value, obeys-graded)

pub returns-in-Configuration : goal.returns-in-Configuration
unfolding obeys
returns-in-Configuration c = search (obeys-is, obeys-number, obeys-value, obeys-graded)

pub returns-in-Register : goal.returns-in-Register
unfolding obeys
returns-in-Register c = search (obeys-is, obeys-number, obeys-value, obeys-graded)

pub returns-in-Suffix : goal.returns-in-Suffix
unfolding obeys
returns-in-Suffix c = search (obeys-is, obeys-number, obeys-value, obeys-graded)

pub returns-in-Stream : goal.returns-in-Stream
unfolding obeys
returns-in-Stream c = search (obeys-is, obeys-number, obeys-value, obeys-graded)

pub returns-in-Serial : goal.returns-in-Serial
unfolding obeys
returns-in-Serial c = search (obeys-is, obeys-number, obeys-value, obeys-graded)

pub returns-in-Unit : goal.returns-in-Unit
unfolding obeys
returns-in-Unit c = search (obeys-is, obeys-number, obeys-value, obeys-graded)

pub returns-in-Length : goal.returns-in-Length
unfolding obeys
returns-in-Length c = search (obeys-is, obeys-number, obeys-value, obeys-graded)

pub returns-in-NextRead : goal.returns-in-NextRead
unfolding obeys
returns-in-NextRead c = search (obeys-is, obeys-number, obeys-value, obeys-graded)

pub returns-in-Date : goal.returns-in-Date
unfolding obeys
returns-in-Date c = search (obeys-is, obeys-number, obeys-value, obeys-graded)

pub returns-in-Value : goal.returns-in-Value
unfolding obeys
returns-in-Value c = search (obeys-is, obeys-number, obeys-value, obeys-graded)

pub returns-in-Quality : goal.returns-in-Quality
unfolding obeys
returns-in-Quality c = search (obeys-is, obeys-number, obeys-value, obeys-graded)

pub returns-in-Reason : goal.returns-in-Reason
unfolding obeys
returns-in-Reason c = search (obeys-is, obeys-number, obeys-value, obeys-graded)

pub returns-in-Description : goal.returns-in-Description
unfolding obeys
returns-in-Description c = search (obeys-is, obeys-number, obeys-value, obeys-graded)

pub returns-in-Time : goal.returns-in-Time
unfolding obeys
returns-in-Time c = search (obeys-is, obeys-number, obeys-value, obeys-graded)

pub returns-in-Load : goal.returns-in-Load
unfolding obeys
returns-in-Load c = search (obeys-is, obeys-number, obeys-value, obeys-graded)

pub returns-in-Interval : goal.returns-in-Interval
unfolding obeys
returns-in-Interval c = search (obeys-is, obeys-number, obeys-value, obeys-graded)

pub returns-in-TransCode : goal.returns-in-TransCode
unfolding obeys
returns-in-TransCode c = search (obeys-is, obeys-number, obeys-value, obeys-graded)

pub returns-in-ServiceOrder : goal.returns-in-ServiceOrder
unfolding obeys
returns-in-ServiceOrder c = search (obeys-is, obeys-number, obeys-value, obeys-graded)

pub returns-in-ReadTime : goal.returns-in-ReadTime
unfolding obeys
returns-in-ReadTime c = search (obeys-is, obeys-number, obeys-value, obeys-graded)

pub returns-in-IndexRead : goal.returns-in-IndexRead
unfolding obeys
returns-in-IndexRead c = search (obeys-is, obeys-number, obeys-value, obeys-graded)

pub returns-in-Direction : goal.returns-in-Direction
unfolding obeys
returns-in-Direction c = search (obeys-is, obeys-number, obeys-value, obeys-graded)

pub returns-in-RegisterRead : goal.returns-in-RegisterRead
unfolding obeys
returns-in-RegisterRead c = search (obeys-is, obeys-number, obeys-value, obeys-graded)
