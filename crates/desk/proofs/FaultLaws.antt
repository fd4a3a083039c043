-- One test after another: they pass exactly if each does.
use mathlib.Core.Bool.{Bool, true, false}
use mathlib.Core.Path.{◌≡◌, refl, sym, ap, ◌∙◌}
use Prim.Native.Nat.{ℕ}
use native.Mathlib.Omega.{arith}
use Rattle.desk.specs.declared.faults.Fault.{Fault}
use Rattle.std.specs.Prelude.{Result, Ok, Err}
use Rattle.grids.specs.declared.headers.Header.{Header}
use Rattle.desk.specs.Faults.{Tested, ◌then◌, unless, headed}

pub by_test : {P : Type 0} (t : Tested) → (t ≡ Ok tt → P) → ((fault : Fault) → t ≡ Err fault → P) → P
by_test (Ok done) passed failed = passed refl
by_test (Err fault) passed failed = failed fault refl

module _ (a b : Tested) where
  then_passed : a ≡ Ok tt → a then b ≡ b
  unfolding ◌then◌
  then_passed e = rw e refl

  pub passed_before : a then b ≡ Ok tt → a ≡ Ok tt
  unfolding ◌then◌
  passed_before e = by_test a (λ p. p) (λ fault p. p ∙ rw p at e)

  pub passed_after : a then b ≡ Ok tt → b ≡ Ok tt
  passed_after e = sym (then_passed (passed_before e)) ∙ e

err_same : {fault other : Fault} {T : Type 0} → ◌≡◌ {A = Result T Fault} (Err fault) (Err other) → ◌≡◌ {A = Tested} (Err fault) (Err other)
err_same e = let same = err_is e in ap Err same
  where
    err_is : {fault other : Fault} {T : Type 0} → ◌≡◌ {A = Result T Fault} (Err fault) (Err other) → fault ≡ other
    err_is e = cc

-- a header that is told with what is wrong besides
module _ (t : Tested) (h : Header) where
  pub headed_ok : {first : Header} → Ok first ≡ headed t h → (t ≡ Ok tt) × (first ≡ h)
  unfolding headed
  headed_ok e = by_test t (λ p. (p, let same = rw p at e in cc)) (λ fault p. absurd (let o : ◌≡◌ {A = ℕ} 0 1 = let wrong = rw p at e in cc in omega arith))

  pub headed_err : {fault : Fault} → Err fault ≡ headed t h → t ≡ Err fault
  unfolding headed
  headed_err e = by_test t (λ p. absurd (let o : ◌≡◌ {A = ℕ} 0 1 = let wrong = rw p at e in cc in omega arith)) (λ other p. p ∙ sym (err_same (rw p at e)))

pub fits_unless : (b : Bool) (fault : Fault) → unless b fault ≡ Ok tt → b ≡ true
unfolding unless
fits_unless true fault e = refl
fits_unless false fault e = absurd (let o : ◌≡◌ {A = ℕ} 0 1 = cc in omega arith)
