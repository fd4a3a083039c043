-- `sheets::test_grids` meets its contract: its seven tests, one after another.
use Rattle.std.proofs.Common.{◌≡◌, refl, rules, Err}
use Rattle.desk.specs.declared.faults.GridFile.TheVariants.{Cover, Group, Water}
use Rattle.desk.specs.Faults.{◌then◌, headed}
use Rattle.desk.specs.Sheets.{test_grids}
use Rattle.desk.proofs.FaultLaws.{headed_ok, headed_err}
use Rattle.desk.proofs.SheetLaws.{matched}
use Rattle.desk.proofs.sheets.test_grids.Goals as goal

pub returns-in_err-first : goal.returns-in_err-first
unfolding test_grids ◌then◌ headed
returns-in_err-first c =
    let same : c.from_residual.result ≡ Err c.in_err-first.field-0.0 = search rules in
    rw (same, headed_err _ _ c.in_err-first.ensures) refl

pub returns-in_err-second : goal.returns-in_err-second
unfolding test_grids ◌then◌ headed
returns-in_err-second c =
    let same : c.from_residual-in_err-second.result ≡ Err c.in_err-second.field-0.0 = search rules in
    rw (same, (headed_ok _ _ c.in_ok-first.ensures).0, headed_err _ _ c.in_err-second.ensures) refl

pub returns-in_err-third : goal.returns-in_err-third
unfolding test_grids ◌then◌ headed
returns-in_err-third c =
    let same : c.from_residual-in_err-third.result ≡ Err c.in_err-third.field-0.0 = search rules in
    rw (same, (headed_ok _ _ c.in_ok-first.ensures).0, (headed_ok _ _ c.in_ok-second.ensures).0, headed_err _ _ c.in_err-third.ensures) refl

pub returns-in_err-fourth : goal.returns-in_err-fourth
unfolding test_grids ◌then◌ headed
returns-in_err-fourth c =
    let same : c.from_residual-in_err-fourth.result ≡ Err c.in_err-fourth.field-0.0 = search rules in
    rw (same, (headed_ok _ _ c.in_ok-first.ensures).0, (headed_ok _ _ c.in_ok-second.ensures).0, (headed_ok _ _ c.in_ok-third.ensures).0, headed_err _ _ c.in_err-fourth.ensures) refl

pub returns-in_err-test_match : goal.returns-in_err-test_match
unfolding test_grids ◌then◌ headed
returns-in_err-test_match c =
    let first = headed_ok _ _ c.in_ok-first.ensures in
    let second = headed_ok _ _ c.in_ok-second.ensures in
    let third = headed_ok _ _ c.in_ok-third.ensures in
    let fourth = headed_ok _ _ c.in_ok-fourth.ensures in
    let same : c.from_residual-in_err-test_match.result ≡ Err c.in_err-test_match.field-0.0 = search rules in
    rw (same, first.0, second.0, third.0, fourth.0, matched Cover second.1 first.1 c.in_err-test_match.ensures) refl

pub returns-in_err-test_match-2 : goal.returns-in_err-test_match-2
unfolding test_grids ◌then◌ headed
returns-in_err-test_match-2 c =
    let first = headed_ok _ _ c.in_ok-first.ensures in
    let second = headed_ok _ _ c.in_ok-second.ensures in
    let third = headed_ok _ _ c.in_ok-third.ensures in
    let fourth = headed_ok _ _ c.in_ok-fourth.ensures in
    let same : c.from_residual-in_err-test_match-2.result ≡ Err c.in_err-test_match-2.field-0.0 = search rules in
    rw (same, first.0, second.0, third.0, fourth.0, matched Cover second.1 first.1 c.in_ok-test_match.ensures, matched Group third.1 first.1 c.in_err-test_match-2.ensures) refl

pub returns-in_err-test_match-3 : goal.returns-in_err-test_match-3
unfolding test_grids ◌then◌ headed
returns-in_err-test_match-3 c =
    let first = headed_ok _ _ c.in_ok-first.ensures in
    let second = headed_ok _ _ c.in_ok-second.ensures in
    let third = headed_ok _ _ c.in_ok-third.ensures in
    let fourth = headed_ok _ _ c.in_ok-fourth.ensures in
    let same : c.from_residual-in_err-test_match-3.result ≡ Err c.in_err-test_match-3.field-0.0 = search rules in
    rw (same, first.0, second.0, third.0, fourth.0, matched Cover second.1 first.1 c.in_ok-test_match.ensures, matched Group third.1 first.1 c.in_ok-test_match-2.ensures, matched Water fourth.1 first.1 c.in_err-test_match-3.ensures) refl

pub returns : goal.returns
unfolding test_grids ◌then◌ headed
returns c =
    let first = headed_ok _ _ c.in_ok-first.ensures in
    let second = headed_ok _ _ c.in_ok-second.ensures in
    let third = headed_ok _ _ c.in_ok-third.ensures in
    let fourth = headed_ok _ _ c.in_ok-fourth.ensures in
    rw (first.0, second.0, third.0, fourth.0, matched Cover second.1 first.1 c.in_ok-test_match.ensures, matched Group third.1 first.1 c.in_ok-test_match-2.ensures, matched Water fourth.1 first.1 c.in_ok-test_match-3.ensures, first.1) refl
