-- `chart::parts::shade` meets its contract. Assumes nothing.
use Rattle.chart.specs.Parts.{shade_of}
use Rattle.chart.proofs.Drawing.{shade-known}
use Rattle.ground.proofs.Tests.{tests}
use Rattle.chart.proofs.parts.shade.Goals as goal

pub returns-in-65 : goal.returns-in-65
unfolding shade_of
returns-in-65 c = search (shade-known 65)

pub returns-in-69 : goal.returns-in-69
unfolding shade_of
returns-in-69 c = search (shade-known 69)

pub returns-in-70 : goal.returns-in-70
unfolding shade_of
returns-in-70 c = search (shade-known 70)

pub returns-in-83 : goal.returns-in-83
unfolding shade_of
returns-in-83 c = search (shade-known 83)

pub returns-in_default : goal.returns-in_default
unfolding shade_of
returns-in_default c = search tests
