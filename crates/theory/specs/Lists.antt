-- A list made from a rule by index.
use Rattle.std.specs.Prelude.{cond, List, [], ◌∷◌, ◌++◌, ℕ, zero, suc, ◌+◌, ltb, drop, get_or, set}

-- f 0, f 1, .. f (n - 1)
unfoldable pub made : {A : Type 0} → ℕ → (ℕ → A) → List A
made zero f = []
made (suc n) f = f 0 ∷ made n (λ i. f (suc i))

-- the same written over the front of a list: the first n places are the rule's, the others are as they were
unfoldable pub made_over : {A : Type 0} → ℕ → (ℕ → A) → List A → List A
made_over n f l = made n f ++ drop n l

-- the same written along an order, one place a turn: before turn t the places whose turn has come are the rule's, the others are as they were
unfoldable pub made_along : ℕ → (ℕ → ℕ) → ℕ → (ℕ → ℕ) → List ℕ → List ℕ
made_along n turn t f l = made n (λ i. cond (ltb (turn i) t) (f i) (get_or l i 0))

-- x more at place i, where that is one of the first n
unfoldable pub added_at : ℕ → ℕ → ℕ → List ℕ → List ℕ
added_at n i x l = cond (ltb i n) (set l i (get_or l i 0 + x)) l
