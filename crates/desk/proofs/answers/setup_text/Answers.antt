-- `answers::setup_text` meets its contract: what was read is what the files say. So what is found wrong is theirs, and where nothing is, the text is.
use Rattle.std.proofs.Common.{◌≡◌, sym, ◌∙◌, ℤ, pos, rules, Ok, Err}
use lib.ListN.{length-replicate}
use Rattle.desk.specs.Texts.{Files, files_by}
use Rattle.desk.proofs.FaultLaws.{headed_ok, headed_err}
use Rattle.desk.proofs.ReadLaws.{Got, grids_tested, tested_read, few_read, text_read}
use Rattle.desk.proofs.AnswerLaws.{answers_grids, answers_covers, answers_text, none_wrong}
use Rattle.desk.proofs.answers.setup_text.Goals.{After-test_grids, In_ok-header}
use Rattle.desk.proofs.answers.setup_text.Goals as goal

abbrev files : goal.After-test_grids → Files
files c =
    let lent = c.args in
    files_by lent.direction.now lent.cover.now lent.group.now lent.water.now lent.covers.now lent.weather.now

got :
    (c : goal.After-test_grids) → Got (files c) c.read_grid-first.new.cells c.read_grid-second.new.cells c.read_grid-third.new.cells c.read_grid-fourth.new.cells
    c.read_grid-first.result c.read_grid-second.result c.read_grid-third.result c.read_grid-fourth.result
got c =
    record {
      before = _;
      room = length-replicate {A = ℤ} 4096 (pos 0);
      directions = c.read_grid-first.ensures;
      covers = c.read_grid-second.ensures;
      groups = c.read_grid-third.ensures;
      waters = c.read_grid-fourth.ensures;
    }

pub returns-in_err-header : goal.returns-in_err-header
returns-in_err-header c =
    let s = (goal.at.returns-in_err-header c).After-test_grids in
    let same : c.from_residual.result ≡ Err c.in_err-header.field-0.0 = search rules in
    rw same (answers_grids (files s) _ _ (sym (tested_read (got s)) ∙ headed_err _ _ c.in_err-header.ensures))

passed : (c : goal.In_ok-header) → grids_tested (files (goal.at.In_ok-header c).After-test_grids) ≡ Ok tt
passed c = sym (tested_read (got (goal.at.In_ok-header c).After-test_grids)) ∙ (headed_ok _ _ c.in_ok-header.ensures).0

pub returns-then-not-is_cover_file : goal.returns-then-not-is_cover_file
returns-then-not-is_cover_file c =
    answers_covers (files (goal.at.returns-then-not-is_cover_file c).After-test_grids) _ (passed (goal.at.returns-then-not-is_cover_file c).In_ok-header)
    (sym c.is_cover_file.ensures ∙ c.if-not-is_cover_file.true)

pub write_text-requires : goal.write_text-requires
write_text-requires c =
    few_read (got (goal.at.write_text-requires c).After-test_grids) (passed (goal.at.write_text-requires c).In_ok-header) _ (headed_ok _ _ c.in_ok-header.ensures).1

pub returns : goal.returns
returns c =
    let s = (goal.at.returns c).After-test_grids in
    let none = passed (goal.at.returns c).In_ok-header in
    answers_text (files s) (none_wrong (files s) none (sym c.is_cover_file.ensures ∙ c.if-not-is_cover_file.false))
    (text_read (got s) none _ (headed_ok _ _ c.in_ok-header.ensures).1) c.write_text.ensures
