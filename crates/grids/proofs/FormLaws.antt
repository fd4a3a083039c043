-- What is written of a grid, part after part: a cell and the blank after it, the rows, a header's line and the header. Each has a bound on its bytes.
use mathlib.Core.List.{List, [], ◌∷◌, ◌++◌, append_assoc, append-nil}
use mathlib.Core.Path.{◌≡◌, refl, sym, ap, ◌∙◌}
use Prim.Native.Nat.{ℕ, suc, ◌+◌, ◌*◌, ◌^◌, ◌≤◌, ◌<◌}
use native.Mathlib.Nat.{le_refl}
use native.Mathlib.Numerals.{add-one}
use native.Mathlib.Omega.{arith}
use lib.Dec.{eqb}
use lib.IntN.{ℤ}
use lib.ListN.{length, get_or, drop, length-append, drop_of_length-le}
use lib.Seq.{append_snoc, drop-cons}
use mir.Syntax.{w32}
use mir.Val.{SFits}
use Rattle.theory.proofs.Cases.{by_cases}
use Rattle.words.specs.Digits.{digits, written, bytes}
use Rattle.words.specs.Writing.{farthest, Put, Wrote}
use Rattle.words.proofs.DigitLaws.{digits_below}
use Rattle.words.proofs.WritingLaws.{put_none, put_length, wrote_as, wrote_whole, wrote_bytes, wrote_then}
use Rattle.grids.specs.Measures.{most_characters}
use Rattle.grids.specs.Headers.{Header}
use Rattle.grids.specs.Forms.{name_line, header_form, blank_after, done_after, rows, grid_form, most_signed, most_size, most_text, most_no_data, most_header, most_whole}
use Rattle.grids.proofs.WholeLaws.{read, whole}

-- a byte after some
pub byte_after :
    {at mid r most : ℕ} {xs l l₁ l₂ : List ℕ} (b : ℕ) → length l ≤ farthest → Wrote most at xs l l₁ mid → Put mid (b ∷ []) l₁ l₂ r
    → Wrote (most + 1) at (xs ++ b ∷ []) l l₂ r
byte_after b long w v = wrote_then long w (wrote_bytes v)

pub cell_wrote :
    {at mid r : ℕ} {l l₁ l₂ : List ℕ} (z : ℤ) (b : ℕ) → SFits w32 z → length l ≤ farthest → Wrote most_signed at (written (read z)) l l₁ mid
    → Put mid (b ∷ []) l₁ l₂ r → Wrote most_whole at (written z ++ b ∷ []) l l₂ r
cell_wrote z b h long w v = byte_after b long (rw (whole z h) at w) v

-- rows: what is written so far, and what is left of them
pub record Laid {A : Type 0} (form : A → List ℕ) (most columns : ℕ) (xs : List A) (at : ℕ) (before now : List ℕ) (i done next : ℕ) : Type 0 where
  pub front : List ℕ
  pub wrote : Wrote (most * i) at front before now next
  pub whole : rows form columns 0 xs ≡ front ++ rows form columns done (drop i xs)
  pub few : done ≤ i
  pub within : i ≤ length xs

module _ {A : Type 0} (form : A → List ℕ) (most columns : ℕ) (xs : List A) (at : ℕ) (before : List ℕ) where
  pub laid_none : at ≤ farthest → Laid form most columns xs at before before 0 0 at
  laid_none h =
      record {
        front = [];
        wrote = record { put = put_none at before h; short = omega arith };
        whole = refl;
        few = omega arith;
        within = omega arith;
      }

  done_few : (done i : ℕ) → done ≤ i → done_after columns (suc done) ≤ suc i
  unfolding done_after
  done_few done i h = by_cases (eqb (suc done) columns) (λ e. rw e (omega arith)) (λ e. rw e (omega arith))

  module _ (now : List ℕ) (i done next : ℕ) (l : Laid form most columns xs at before now i done next) where
    pub laid_next :
        (d : A) (b done' next' : ℕ) (now' : List ℕ) → length before ≤ farthest → i < length xs → b ≡ blank_after columns (done + 1) → done' ≡ done_after columns (done + 1)
        → Wrote most next (form (get_or xs i d) ++ b ∷ []) now now' next'
        → Laid form most columns xs at before now' (i + 1) done' next'
    unfolding rows
    laid_next d b done' next' now' long h eb ed w =
        let x = get_or xs i d in
        let rest = rows form columns (done_after columns (suc done)) (drop (suc i) xs) in
        let blank : b ≡ blank_after columns (suc done) = rw (← add-one done) eb in
        let count : done' ≡ done_after columns (suc done) = rw (← add-one done) ed in
        record {
          front = l.front ++ (form x ++ b ∷ []);
          wrote = wrote_whole refl (omega arith) (wrote_then long l.wrote w);
          whole =
              l.whole
              ∙ rw (drop-cons xs i d h, add-one i, count, blank)
              (ap (λ (t : List ℕ). l.front ++ t) (sym (append_snoc (form x) (blank_after columns (suc done)) rest))
              ∙ sym (append_assoc l.front (form x ++ blank_after columns (suc done) ∷ []) rest));
          few = rw count (omega (arith, done_few done i l.few));
          within = omega (arith, h);
        }

    pub laid_all : length xs ≤ i → Wrote (most * length xs) at (rows form columns 0 xs) before now next
    unfolding rows
    laid_all h =
        let same : i ≡ length xs = omega (arith, l.within) in
        let all : rows form columns 0 xs ≡ l.front = l.whole ∙ rw (drop_of_length-le xs {i = i} h) (append-nil l.front) in
        wrote_whole all (rw same (le_refl (most * length xs))) l.wrote

-- a header's line
pub line_wrote :
    {at mid r most : ℕ} {l l₁ l₂ : List ℕ} (name value : List ℕ) → length l ≤ farthest → Put at (name ++ 32 ∷ []) l l₁ mid
    → Wrote most mid (value ++ 10 ∷ []) l₁ l₂ r
    → Wrote (length name + (most + 1)) at (name_line name value) l l₂ r
unfolding name_line
line_wrote name value long w v =
    wrote_whole (sym (append_snoc name 32 (value ++ 10 ∷ []))) (omega (arith, length-append name (32 ∷ []))) (wrote_then long (wrote_bytes w) v)

pub size_line :
    {at mid r n : ℕ} {l l₁ l₂ : List ℕ} (name : List ℕ) (size : ℕ) → length l ≤ farthest → size < 2 ^ 32 → n ≡ size → Put at (name ++ 32 ∷ []) l l₁ mid
    → Put mid (digits n ++ 10 ∷ []) l₁ l₂ r
    → Wrote (length name + most_size) at (name_line name (digits size)) l l₂ r
size_line name size long fits e w v =
    line_wrote name (digits size) long w
    (wrote_as 11 (digits size ++ 10 ∷ []) (wrote_bytes v) (ap (λ (m : ℕ). digits m ++ 10 ∷ []) e)
    (omega (arith, digits_below 9 size (omega arith), length-append (digits size) (10 ∷ []))))

pub text_line :
    {at mid end r : ℕ} {l l₁ l₂ l₃ : List ℕ} (name text : List ℕ) → length l ≤ farthest → length text ≤ most_characters → Put at (name ++ 32 ∷ []) l l₁ mid
    → Put mid text l₁ l₂ end → Put end (10 ∷ []) l₂ l₃ r
    → Wrote (length name + most_text) at (name_line name text) l l₃ r
text_line name text long few w t v =
    line_wrote name text long w
    (byte_after 10 (rw (put_length w) long) (record { put = t; short = few }) v)

pub whole_line :
    {at mid r : ℕ} {l l₁ l₂ : List ℕ} (name : List ℕ) (z : ℤ) → SFits w32 z → length l ≤ farthest → Put at (name ++ 32 ∷ []) l l₁ mid
    → Wrote most_whole mid (written (read z) ++ 10 ∷ []) l₁ l₂ r
    → Wrote (length name + most_no_data) at (name_line name (written z)) l l₂ r
whole_line name z h long w v = line_wrote name (written z) long w (rw (whole z h) at v)

-- the header, line after line
pub header_wrote :
    {a b c d e r : ℕ} {l l₁ l₂ l₃ l₄ l₅ l₆ : List ℕ} (h : Header) → length l ≤ farthest
    → Wrote 17 0 (name_line (bytes "ncols") (digits h.grid.width)) l l₁ a
    → Wrote 17 a (name_line (bytes "nrows") (digits h.grid.height)) l₁ l₂ b
    → Wrote 31 b (name_line (bytes "xllcorner") h.x_corner) l₂ l₃ c
    → Wrote 31 c (name_line (bytes "yllcorner") h.y_corner) l₃ l₄ d
    → Wrote 30 d (name_line (bytes "cellsize") h.cell_size) l₄ l₅ e
    → Wrote 25 e (name_line (bytes "nodata_value") (written h.no_data)) l₅ l₆ r
    → Wrote most_header 0 (header_form h) l l₆ r
unfolding header_form
header_wrote h long p q s t u v =
    wrote_whole refl (omega arith) (wrote_then long (wrote_then long (wrote_then long (wrote_then long (wrote_then long p q) s) t) u) v)

pub grid_wrote :
    {A : Type 0} {mid r most : ℕ} {l l₁ l₂ : List ℕ} (form : A → List ℕ) (h : Header) (xs : List A) → length l ≤ farthest
    → Wrote most_header 0 (header_form h) l l₁ mid → Wrote most mid (rows form h.grid.width 0 xs) l₁ l₂ r
    → Wrote (most_header + most) 0 (grid_form form h xs) l l₂ r
unfolding grid_form
grid_wrote form h xs long w v = wrote_then long w v
