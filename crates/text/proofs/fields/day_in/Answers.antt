-- `fields::day_in` meets its contract: seven numbers from the day's place on, or from the numbers' end, a temperature by the number of its code.
use Rattle.text.proofs.OneDayLaws.{day_fields}
use Rattle.text.proofs.fields.day_in.Goals as goal

pub returns : goal.returns
returns c = day_fields c.args.numbers.now c.args.from c.args.k _ c.day_place-at.ensures
    _ _ _ _ _ _ _ _ _ _ _ _
    c.number_at.ensures c.number_at-2.ensures
    c.number_at-3.ensures c.wide.ensures
    c.number_at-4.ensures c.tenths.ensures
    c.number_at-5.ensures c.tenths-2.ensures
    c.number_at-6.ensures c.tenths-3.ensures
    c.number_at-7.ensures c.wide-2.ensures
