-- Entities in the list: six numbers to each. What is written behind what stands there already, twice, is written at once, since the numbers
-- and the text of a list of entities come one entity behind the other.
use mathlib.Core.Path.{◌≡◌, refl, sym, ◌∙◌, ap}
use mathlib.Core.List.{List, [], ◌∷◌, ◌++◌, append_assoc}
use Prim.Native.Nat.{ℕ, ◌+◌, ◌*◌, ◌≤◌}
use native.Mathlib.Omega.{arith}
use lib.Dec.{leb, eqb}
use lib.ListN.{length, take, drop, length-append, length-drop, take-append-drop}
use lib.Seq.{length-take-le, take_at, drop_at, drop-drop}
use borrow.Author.Tests.{eqb-true, eq-eqb, ne_eqb, le-leb}
use Rattle.tokens.proofs.Table.{holds, if_then, so}
use Rattle.holding.specs.Kind.{kind_code}
use Rattle.holding.specs.declared.rows.Kind.{Kind}
use Rattle.holding.specs.declared.rows.Kind.TheVariants.{BeginMetacommand, EndMetacommand, MetacommandToken, MetacommandQuoted, MetacommandCurly, BeginGroup, EndGroup, Array, Number, QuotedString, CurlyString, DefineVariable, DefineConstant, Get, Put, Operation, End}
use Rattle.entities.specs.Entity.{Entity, kind_number, bare, size, sizes, texts, rows}
use Rattle.entities.specs.Judging.{kind_of, bares, written, text_written}

-- the number of a number's kind is that number
pub number_of_kind : (k : ℕ) → 1 ≤ k → k ≤ 17 → kind_number (kind_of k) ≡ k
unfolding kind_number kind_of
number_of_kind k g h =
    eqb-true (kind_number (kind_of k)) k
    (so (leb 1 k) (eqb (kind_number (kind_of k)) k)
    (holds (λ j. if_then (leb 1 j) (eqb (kind_number (kind_of j)) j)) 18 refl k (omega arith))
    (le-leb 1 k g))

-- and so of a kind as the code names it
pub number_of_code : (k : Kind) → kind_number (kind_of (kind_code k)) ≡ kind_code k
unfolding kind_number kind_of kind_code
number_of_code BeginMetacommand = refl
number_of_code EndMetacommand = refl
number_of_code MetacommandToken = refl
number_of_code MetacommandQuoted = refl
number_of_code MetacommandCurly = refl
number_of_code BeginGroup = refl
number_of_code EndGroup = refl
number_of_code Array = refl
number_of_code Number = refl
number_of_code QuotedString = refl
number_of_code CurlyString = refl
number_of_code DefineVariable = refl
number_of_code DefineConstant = refl
number_of_code Get = refl
number_of_code Put = refl
number_of_code Operation = refl
number_of_code End = refl

pub no_bare : (kind place : ℕ) → kind ≡ 0 → bares kind place ≡ []
unfolding bares
no_bare kind place e = rw (eq-eqb kind 0 e)

pub one_bare : (kind place : ℕ) → (kind ≡ 0 → ⊥) → bares kind place ≡ bare (kind_of kind) place ∷ []
unfolding bares
one_bare kind place e = rw (ne_eqb kind 0 e)

-- nothing is written
pub written_none : (before : List ℕ) (k t : ℕ) → written before k t [] ≡ before
unfolding written rows
written_none before k t = let same : k + 0 ≡ k = omega arith in rw same (take-append-drop (6 * k) before)

-- one entity is six numbers
pub written_one :
    (before : List ℕ) (k t : ℕ) (e : Entity) (kind : ℕ) → kind_number e.kind ≡ kind
    → take (k * 6) before
    ++ ((kind ∷ e.place ∷ t ∷ length e.text ∷ length e.string ∷ e.count ∷ []) ++ drop (k * 6 + 6) before)
    ≡ written before k t (e ∷ [])
unfolding written rows
written_one before k t e kind is =
    let at : k * 6 ≡ 6 * k = omega arith in
    let on : 6 * k + 6 ≡ 6 * (k + 1) = omega arith in
    rw (at, on, is)

-- entities behind entities
pub rows_append : (t : ℕ) (es fs : List Entity) → rows t (es ++ fs) ≡ rows t es ++ rows (t + sizes es) fs
unfolding rows sizes
rows_append t [] fs = let same : t + 0 ≡ t = omega arith in rw same
rows_append t (e ∷ es) fs =
    let same : t + size e + sizes es ≡ t + (size e + sizes es) = omega arith in
    ap (λ l. kind_number e.kind ∷ e.place ∷ t ∷ length e.text ∷ length e.string ∷ e.count ∷ l)
    (rows_append (t + size e) es fs ∙ ap (λ j. rows (t + size e) es ++ rows j fs) same)

pub sizes_append : (es fs : List Entity) → sizes (es ++ fs) ≡ sizes es + sizes fs
unfolding sizes
sizes_append [] fs = omega arith
sizes_append (e ∷ es) fs = omega (arith, sizes_append es fs)

pub texts_append : (es fs : List Entity) → texts (es ++ fs) ≡ texts es ++ texts fs
unfolding texts
texts_append [] fs = refl
texts_append (e ∷ es) fs =
    rw (texts_append es fs) (simp append_assoc)

pub rows_length : (t : ℕ) (es : List Entity) → length (rows t es) ≡ 6 * length es
unfolding rows
rows_length t [] = refl
rows_length t (e ∷ es) = omega (arith, rows_length (t + size e) es)

pub texts_length : (es : List Entity) → length (texts es) ≡ sizes es
unfolding texts sizes size
texts_length [] = refl
texts_length (e ∷ es) =
    length-append e.text (e.string ++ texts es)
    ∙ omega (arith, length-append e.string (texts es), texts_length es)

-- A buffer with `new` written behind its first `n`, and then more behind that.
pub twice :
    (before new more : List ℕ) (n : ℕ) → n + length new ≤ length before
    → take (n + length new) (take n before ++ (new ++ drop (n + length new) before))
    ++ (more ++ drop (n + length new + length more) (take n before ++ (new ++ drop (n + length new) before)))
    ≡ take n before ++ ((new ++ more) ++ drop (n + (length new + length more)) before)
twice before new more n h =
    let m = length new in
    let front : length (take n before ++ new) ≡ n + m =
    length-append (take n before) new ∙ ap (λ k. k + m) (length-take-le n before (omega arith)) in
    let whole = sym (append_assoc (take n before) new (drop (n + m) before)) in
    let left : take (n + m) (take n before ++ (new ++ drop (n + m) before)) ≡ take n before ++ new =
    ap (take (n + m)) whole ∙ take_at (take n before ++ new) (drop (n + m) before) (n + m) front in
    let right : drop (n + m + length more) (take n before ++ (new ++ drop (n + m) before)) ≡ drop (n + (m + length more)) before =
    sym (drop-drop (length more) (n + m) (take n before ++ (new ++ drop (n + m) before)))
    ∙ (ap (drop (length more)) (ap (drop (n + m)) whole ∙ drop_at (take n before ++ new) (drop (n + m) before) (n + m) front)
    ∙ (drop-drop (length more) (n + m) before
    ∙ (let same : n + m + length more ≡ n + (m + length more) = omega arith in ap (λ k. drop k before) same))) in
    rw (left, right) (simp append_assoc)

pub written_more :
    (before : List ℕ) (k t : ℕ) (es fs : List Entity) → 6 * (k + length es) ≤ length before
    → written (written before k t es) (k + length es) (t + sizes es) fs ≡ written before k t (es ++ fs)
unfolding written
written_more before k t es fs h =
    let old = rows_length t es in
    let new = rows_length (t + sizes es) fs in
    let at : 6 * (k + length es) ≡ 6 * k + length (rows t es) = omega arith in
    let end : 6 * (k + length es + length fs) ≡ 6 * k + length (rows t es) + length (rows (t + sizes es) fs) = omega arith in
    let all : 6 * (k + length (es ++ fs)) ≡ 6 * k + (length (rows t es) + length (rows (t + sizes es) fs)) =
    omega (arith, length-append es fs) in
    rw (at, end, all, rows_append) (twice before (rows t es) (rows (t + sizes es) fs) (6 * k) (omega arith))

pub text_none : (before : List ℕ) (t : ℕ) → text_written before t [] ≡ before
unfolding text_written texts sizes
text_none before t = let same : t + 0 ≡ t = omega arith in rw same (take-append-drop t before)

pub text_more :
    (before : List ℕ) (t : ℕ) (es fs : List Entity) → t + sizes es ≤ length before
    → text_written (text_written before t es) (t + sizes es) fs ≡ text_written before t (es ++ fs)
unfolding text_written
text_more before t es fs h =
    let old = texts_length es in
    let new = texts_length fs in
    let at : t + sizes es ≡ t + length (texts es) = omega arith in
    let end : t + sizes es + sizes fs ≡ t + length (texts es) + length (texts fs) = omega arith in
    let all : t + sizes (es ++ fs) ≡ t + (length (texts es) + length (texts fs)) = omega (arith, sizes_append es fs) in
    rw (end, at, all, texts_append) (twice before (texts es) (texts fs) t (omega arith))

-- the buffers keep their lengths
pub written_length :
    (before : List ℕ) (k t : ℕ) (es : List Entity) → 6 * (k + length es) ≤ length before → length (written before k t es) ≡ length before
unfolding written
written_length before k t es h =
    length-append (take (6 * k) before) (rows t es ++ drop (6 * (k + length es)) before)
    ∙ omega (
      arith,
      length-append (rows t es) (drop (6 * (k + length es)) before),
      rows_length t es,
      length-take-le (6 * k) before (omega arith),
      length-drop (6 * (k + length es)) before,
    )

pub text_length :
    (before : List ℕ) (t : ℕ) (es : List Entity) → t + sizes es ≤ length before → length (text_written before t es) ≡ length before
unfolding text_written
text_length before t es h =
    length-append (take t before) (texts es ++ drop (t + sizes es) before)
    ∙ omega (
      arith,
      length-append (texts es) (drop (t + sizes es) before),
      texts_length es,
      length-take-le t before (omega arith),
      length-drop (t + sizes es) before,
    )
