-- Seven totals that are copied to a day's place are one writing of seven numbers, and what a ledger wrote to the front of a list reads back day by day,
-- since day k's seven numbers begin after those of k days.
use mathlib.Core.Bool.{cond}
use mathlib.Core.List.{List, ◌++◌}
use mathlib.Core.Path.{◌≡◌, refl, sym, ap, ◌∙◌}
use Prim.Native.Nat.{ℕ, zero, suc, ◌+◌, ◌-◌, ◌*◌, ◌/◌, ◌≤◌, ◌<◌}
use native.Mathlib.Nat.{add-zero}
use native.Mathlib.Omega.{arith}
use lib.ListN.{length, get_or, take, drop, length-append, get_or-append}
use lib.Seq.{sets, sets-eq, drop-drop, get_or-append-add}
use borrow.Author.Tests.{lt-ltb}
use borrow.Rule.Slice.PartMut.{put_mid}
use Rattle.std.specs.Prelude.{ltb}
use Rattle.std.proofs.lemmas.List.{append_assoc}
use Rattle.theory.proofs.Cases.{below_or_not, cond_true}
use Rattle.paper.specs.Day.{Totals}
use Rattle.daybook.specs.Totals.{seven, ledger, totals_in}

copied_is : (l ys : List ℕ) (a n : ℕ) → length ys ≡ n → a + n ≤ length l → put_mid a n l ys ≡ sets l a ys
copied_is l ys a n long room = rw (drop-drop n a l, ← long) (sym (sets-eq ys l a (omega (arith, room, long)) ∙ append_assoc (take a l) ys (drop (a + length ys) l)))

-- where the list has room for the day, what is copied to its place is the seven totals written there
pub seven_copied : (l : List ℕ) (k : ℕ) (t : Totals) (copied : List ℕ) → copied ≡ seven t → k < length l / 7
    → put_mid (7 * k) (7 * k + 7 - 7 * k) l copied ≡ cond (ltb k (length l / 7)) (sets l (7 * k) (seven t)) l
seven_copied l k t copied e h =
    let long : length copied ≡ 7 * k + 7 - 7 * k = ap length e ∙ omega arith in
    copied_is l copied (7 * k) (7 * k + 7 - 7 * k) long (omega (arith, h)) ∙ ap (sets l (7 * k)) e ∙ sym (cond_true _ (lt-ltb k (length l / 7) h) _ _)

-- what a ledger wrote
pub ledger_length : (t : ℕ → Totals) (n : ℕ) → length (ledger t n) ≡ 7 * n
unfolding ledger
ledger_length t zero = refl
ledger_length t (suc n) = length-append (ledger t n) (seven (t n)) ∙ omega (arith, ledger_length t n)

ledger_at : (t : ℕ → Totals) (n k j : ℕ) → k < n → j ≤ 6 → get_or (ledger t n) (7 * k + j) 0 ≡ get_or (seven (t k)) j 0
unfolding ledger
ledger_at t zero k j h i = absurd (omega arith)
ledger_at t (suc n) k j h i =
    below_or_not k n
    (λ less. get_or-append (ledger t n) (seven (t n)) 0 (7 * k + j) (omega (arith, ledger_length t n)) ∙ ledger_at t n k j less i)
    (λ last.
    let same : k ≡ n = omega arith in
    ap (λ (at : ℕ). get_or (ledger t n ++ seven (t n)) (at + j) 0) (omega (arith, same, ledger_length t n))
    ∙ get_or-append-add (ledger t n) (seven (t n)) j 0
    ∙ ap (λ (m : ℕ). get_or (seven (t m)) j 0) (sym same))

pub reads_back : (l : List ℕ) (t : ℕ → Totals) (n k : ℕ) → k < n → 7 * n ≤ length l → totals_in (sets l 0 (ledger t n)) k ≡ t k
unfolding totals_in
reads_back l t n k h room =
    rw (
      rw (add-zero (7 * k)) at (at 0 (omega arith)),
      at 1 (omega arith),
      at 2 (omega arith),
      at 3 (omega arith),
      at 4 (omega arith),
      at 5 (omega arith),
      at 6 (omega arith),
    )
    refl
  where
    at : (j : ℕ) → j ≤ 6 → get_or (sets l 0 (ledger t n)) (7 * k + j) 0 ≡ get_or (seven (t k)) j 0
    at j i =
        ap (λ (ns : List ℕ). get_or ns (7 * k + j) 0) (sets-eq (ledger t n) l 0 (omega (arith, ledger_length t n)))
        ∙ get_or-append (ledger t n) (drop (0 + length (ledger t n)) l) 0 (7 * k + j) (omega (arith, ledger_length t n))
        ∙ ledger_at t n k j h i
