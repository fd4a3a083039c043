-- `ways::steps` meets its contract: in each arm the byte is the arm's number, for which the paper's table computes; for the rest it is none of the eight.
use Rattle.std.proofs.Common.{sym, ap, arith, rules}
use Rattle.paper.specs.Directions.{way_of}
use Rattle.survey.specs.Ways.{step_of, way_as}
use Rattle.survey.proofs.DirectionLaws.{other_byte}
use Rattle.survey.proofs.ways.steps.Goals as goal

pub returns-in-1 : goal.returns-in-1
unfolding way_of way_as step_of
returns-in-1 c = (ap way_of (sym c.in-1.is), omega arith, omega arith)

pub returns-in-2 : goal.returns-in-2
unfolding way_of way_as step_of
returns-in-2 c = (ap way_of (sym c.in-2.is), omega arith, omega arith)

pub returns-in-4 : goal.returns-in-4
unfolding way_of way_as step_of
returns-in-4 c = (ap way_of (sym c.in-4.is), omega arith, omega arith)

pub returns-in-8 : goal.returns-in-8
unfolding way_of way_as step_of
returns-in-8 c = (ap way_of (sym c.in-8.is), omega arith, omega arith)

pub returns-in-16 : goal.returns-in-16
unfolding way_of way_as step_of
returns-in-16 c = (ap way_of (sym c.in-16.is), omega arith, omega arith)

pub returns-in-32 : goal.returns-in-32
unfolding way_of way_as step_of
returns-in-32 c = (ap way_of (sym c.in-32.is), omega arith, omega arith)

pub returns-in-64 : goal.returns-in-64
unfolding way_of way_as step_of
returns-in-64 c = (ap way_of (sym c.in-64.is), omega arith, omega arith)

pub returns-in-128 : goal.returns-in-128
unfolding way_of way_as step_of
returns-in-128 c = (ap way_of (sym c.in-128.is), omega arith, omega arith)

pub returns-in_default : goal.returns-in_default
unfolding way_as
returns-in_default c = (
  sym (other_byte c.args.byte (search rules) (search rules) (search rules) (search rules) (search rules) (search rules) (search rules) (search rules)),
  omega arith,
  omega arith,
)
