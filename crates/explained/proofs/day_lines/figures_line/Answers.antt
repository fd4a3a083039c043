-- `day_lines::figures_line` meets its contract: seven depths, each after its words, one after another.
use Rattle.std.proofs.Common.{arith}
use Rattle.words.specs.Digits.{bytes}
use Rattle.words.proofs.WritingLaws.{wrote_bytes}
use Rattle.explained.specs.Lines.{figures_line}
use Rattle.explained.proofs.LineLaws.{say_then, two_then}
use Rattle.explained.proofs.day_lines.figures_line.Goals as goal

pub returns : goal.returns
unfolding figures_line bytes
returns c = two_then (omega (arith, c.well_formed)) _ _ _ _ _ c.say_two-a.ensures
    (λ long. two_then long _ _ _ _ _ c.say_two-b.ensures
    (λ long. two_then long _ _ _ _ _ c.say_two-c.ensures
    (λ long. say_then long _ _ _ c.say-d.ensures (λ long. wrote_bytes c.put_bytes.ensures))))
