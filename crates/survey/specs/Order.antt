-- Peeling the cells off upslope first, in one array: entry i is 8192 × the number of cells that i still waits for, plus the cell that stands
-- at place i of the queue. The queue holds the cells that wait for none, the sources first. From each source the peeling goes down for as long as
-- the next cell waits for no other, and takes it as it joins the queue.
use Rattle.std.specs.Prelude.{◌≡◌, Bool, false, cond, ◌&&◌, List, ℕ, ◌+◌, ◌*◌, ◌/◌, ◌%◌, ◌≤◌, ◌<◌, eqb, leb, ltb, length, get_or, set, Option, None}
use Rattle.theory.specs.Sums.{sum, given}
use Rattle.theory.specs.Ways.{on_ring}
use Rattle.theory.specs.Lowest.{lowest}
use Rattle.records.specs.Places.{place_in}
use Rattle.survey.specs.Charts.{OrderedBy}

-- 1 where j leads to i
unfoldable pub leading : (ℕ → ℕ) → ℕ → ℕ → ℕ
leading next i j = given (eqb (next j) i) 1

unfoldable pub waits : List ℕ → ℕ → ℕ
waits l i = get_or l i 0 / 8192

unfoldable pub queued : List ℕ → ℕ → ℕ
queued l t = get_or l t 0 % 8192

-- each entry has the number of cells below k that lead there, and no queue
pub record Counted (n : ℕ) (next : ℕ → ℕ) (k : ℕ) (l : List ℕ) : Type 0 where
  pub sized : length l ≡ 4096
  pub counts : (i : ℕ) → i < n → get_or l i 0 ≡ 8192 * sum k (leading next i)

-- the cell to which the way leads, if it is one of the n, is to wait for one more
unfoldable pub wait_for : ℕ → ℕ → List ℕ → List ℕ
wait_for n way l = cond (ltb way n) (set l way (get_or l way 0 + 8192)) l

-- the counts of n cells, and no queue
pub record Blank (n : ℕ) (l : List ℕ) : Type 0 where
  pub most : n ≤ 4096
  pub sized : length l ≡ 4096
  pub few : (t : ℕ) → t < n → waits l t ≤ 4096
  pub blank : (t : ℕ) → t < n → queued l t ≡ 0

-- the queue of the cells below k that wait for none, in their own order; each waits for as many as were counted
pub record Gathered (n : ℕ) (counts waits queued : ℕ → ℕ) (k tail : ℕ) : Type 0 where
  pub short : tail ≤ k
  pub placed : (t : ℕ) → t < tail → queued t < k
  pub rising : (s t : ℕ) → s < t → t < tail → queued s < queued t
  pub free : (t : ℕ) → t < tail → waits (queued t) ≡ 0
  pub all : (i : ℕ) → i < k → waits i ≡ 0 → (t : ℕ) × (t < tail) × (queued t ≡ i)
  pub left : (i : ℕ) → i < n → waits i ≡ counts i

-- the queue while the cells of `rest` are not yet taken: it has just the cells that wait for none, each once; a cell waits for those of the rest
-- that lead to it; what is taken waits for none; and what leads to a cell of the queue stands before it
pub record Queue (n : ℕ) (next waits queued : ℕ → ℕ) (rest : ℕ → Bool) (tail : ℕ) : Type 0 where
  pub short : tail ≤ n
  pub placed : (t : ℕ) → t < tail → queued t < n
  pub once : (s t : ℕ) → s < tail → t < tail → queued s ≡ queued t → s ≡ t
  pub free : (t : ℕ) → t < tail → waits (queued t) ≡ 0
  pub all : (i : ℕ) → i < n → waits i ≡ 0 → (t : ℕ) × (t < tail) × (queued t ≡ i)
  pub left : (i : ℕ) → i < n → waits i ≡ sum n (λ j. given (rest j) (leading next i j))
  pub taken : (j : ℕ) → j < n → rest j ≡ false → waits j ≡ 0
  pub earlier : (t j : ℕ) → t < tail → j < n → next j ≡ queued t → (u : ℕ) × (u < t) × (queued u ≡ j)

-- the array that holds such a queue: nothing stands past its end
pub record GatheredHeld (n : ℕ) (counts : ℕ → ℕ) (k tail : ℕ) (l : List ℕ) : Type 0 where
  pub sized : length l ≡ 4096
  pub queue : Gathered n counts (waits l) (queued l) k tail
  pub blank : (t : ℕ) → tail ≤ t → t < n → queued l t ≡ 0

pub record QueueHeld (n : ℕ) (next : ℕ → ℕ) (rest : ℕ → Bool) (tail : ℕ) (l : List ℕ) : Type 0 where
  pub sized : length l ≡ 4096
  pub queue : Queue n next (waits l) (queued l) rest tail
  pub blank : (t : ℕ) → tail ≤ t → t < n → queued l t ≡ 0

-- t is a source's place, from `head` on
unfoldable pub ahead : ℕ → ℕ → ℕ → Bool
ahead head sources t = leb head t && ltb t sources

-- the queue with the first `head` sources taken, and each cell that joined it after the sources
pub record PeeledHeld (n : ℕ) (next : ℕ → ℕ) (head sources tail : ℕ) (l : List ℕ) : Type 0 where
  pub rest : ℕ → Bool
  pub kept : QueueHeld n next rest tail l
  pub behind : sources ≤ tail
  pub still : (t : ℕ) → t < tail → rest (queued l t) ≡ ahead head sources t

-- the lowest cell on a ring; and where there is none, the order
pub record OrderOrRing (n : ℕ) (next : ℕ → ℕ) (r : Option ℕ) (l : List ℕ) : Type 0 where
  pub ring : r ≡ place_in (lowest n (on_ring n next))
  pub ordered : r ≡ None → OrderedBy n next l
