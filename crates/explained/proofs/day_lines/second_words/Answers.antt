-- `day_lines::second_words` meets its contract: by its case, each reason has its words.
use Rattle.std.proofs.Common.{refl}
use Rattle.words.specs.Digits.{bytes}
use Rattle.explained.specs.Lines.{second_words}
use Rattle.explained.proofs.day_lines.second_words.Goals as goal

pub returns-in-OpenWater : goal.returns-in-OpenWater
unfolding second_words bytes
returns-in-OpenWater c = rw c.in-OpenWater.is refl

pub returns-in-UnderSnow : goal.returns-in-UnderSnow
unfolding second_words bytes
returns-in-UnderSnow c = rw c.in-UnderSnow.is refl

pub returns-in-BelowPotential : goal.returns-in-BelowPotential
unfolding second_words bytes
returns-in-BelowPotential c = rw c.in-BelowPotential.is refl

pub returns-in-RoomForAll : goal.returns-in-RoomForAll
unfolding second_words bytes
returns-in-RoomForAll c = rw c.in-RoomForAll.is refl

pub returns-in-AboveLargest : goal.returns-in-AboveLargest
unfolding second_words bytes
returns-in-AboveLargest c = rw c.in-AboveLargest.is refl

pub returns-in-NoWater : goal.returns-in-NoWater
unfolding second_words bytes
returns-in-NoWater c = rw c.in-NoWater.is refl

pub returns-in-AllRecharged : goal.returns-in-AllRecharged
unfolding second_words bytes
returns-in-AllRecharged c = rw c.in-AllRecharged.is refl
