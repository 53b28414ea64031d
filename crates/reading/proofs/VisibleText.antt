-- The text of every entity, a prefix, a name, a number or an operation, is visible US-ASCII alone. A token begins with a visible character
-- and goes on only with legal ones that are not exclusive, and whitespace is exclusive; so each is one byte, 21 to 7E.
use mathlib.Core.Path.{◌≡◌, refl, sym, ◌∙◌, ap, subst}
use mathlib.Core.Bool.{Bool, true, false, not, ◌&&◌, false≢true}
use mathlib.Core.List.{List, [], ◌∷◌, ◌++◌, tail, append_assoc}
use Prim.Native.Nat.{ℕ, zero, suc, ◌+◌, ◌-◌, ◌<◌, ◌≤◌}
use native.Mathlib.Omega.{arith}
use lib.Dec.{leb, eqb, ltb}
use lib.ListN.{length}
use borrow.Author.Tests.{ltb-true, ltb-false, leb-true, not-false}
use Rattle.std.specs.Prelude.{if◌then◌else◌}
use Rattle.chars.specs.Limits.{Limits}
use Rattle.chars.specs.Character.{character_at, encoded}
use Rattle.chars.specs.Stream.{start, stream_at, clean}
use Rattle.chars.specs.Character.{Clean}
use Rattle.chars.proofs.Cases.{either, both}
use Rattle.chars.proofs.Extent.{encoded_one}
use Rattle.tokens.specs.Sorts.{visible, white, atomic, exclusive, inclusive, legal}
use Rattle.tokens.specs.Tokens.{Whole, Tokens, State, between, comment, bar, word, string}
use Rattle.tokens.specs.Tokens.{Outcome, goes, gives, ends, refuses, simply, closed, opens, begins, continues, inside, down, step, follows}
use Rattle.tokens.specs.Tokens.{tokens}
use Rattle.tokens.proofs.Table.{holds, if_then, so}
use Rattle.tokens.proofs.Classes.{foreign}
use Rattle.tokens.proofs.Skipping.{by_character, reaches}
use Rattle.tokens.proofs.Clean.{clean_zero, clean_next}
use Rattle.entities.specs.Making.{fresh, Room}
use Rattle.reading.specs.Reading.{refusal, text_of, read_with}
use Rattle.reading.proofs.TextOf.{Every, nothing, Clear, all_clear}

-- bytes from 21 to 7E
abbrev pub Seen : List ℕ → Type 0
Seen [] = Unit
Seen (b ∷ bytes) = (0x21 ≤ b) × (b ≤ 0x7E) × Seen bytes

-- of string data nothing is said
abbrev pub Any : List ℕ → Type 0
Any bytes = Unit

seen_append : (a b : List ℕ) → Seen a → Seen b → Seen (a ++ b)
seen_append [] b s t = t
seen_append (x ∷ a) b s t = (s.0, s.1, seen_append a b s.2 t)

seen_tail : (a : List ℕ) → Seen a → Seen (tail a)
seen_tail [] s = tt
seen_tail (x ∷ a) s = s.2

range : (b : ℕ) → visible b ≡ true → (0x21 ≤ b) × (b ≤ 0x7E)
unfolding visible
range b v = let two = both (leb 0x21 b) (leb b 0x7E) v in (leb-true 0x21 b two.0, leb-true b 0x7E two.1)

tabled : (b : ℕ) → b < 0x80 → (legal b && not (exclusive b)) ≡ true → visible b ≡ true
unfolding visible white exclusive legal
tabled b h t =
    so (legal b && not (exclusive b)) (visible b) (holds (λ k. if_then (legal k && not (exclusive k)) (visible k)) 0x80 refl b h) t

goes_on : (b : ℕ) → legal b ≡ true → exclusive b ≡ false → visible b ≡ true
goes_on b l x =
    let h : b < 0x80 =
    either (ltb b 0x80)
    (λ t. ltb-true b 0x80 t)
    (λ t. absurd (false≢true (sym (foreign b (ltb-false b 0x80 t)).no_legal ∙ l))) in
    tabled b h (rw (l, x))

module _ (L : Limits) (draft : List ℕ) where
  -- `n` visible bytes from `place` up to `i`
  record Begun (place n i : ℕ) : Type 0 where
    more : (m : ℕ) → clean (n + m) (stream_at draft place) ≡ clean n (stream_at draft place) ++ clean m (stream_at draft i)
    seen : Seen (clean n (stream_at draft place))

  none_yet : (i : ℕ) → Begun i 0 i
  none_yet i =
      record {
        more = λ m. let same : 0 + m ≡ m = omega arith in rw (same, clean_zero (stream_at draft i));
        seen = rw (clean_zero (stream_at draft i)) tt;
      }

  abbrev Valid : (i : ℕ) → State → Type 0
  Valid i between = Unit
  Valid i comment = Unit
  Valid i (bar place) = Begun place 1 i
  Valid i (word place n) = Begun place n i
  Valid i (string o n level odd) = Seen (clean o.prefix (stream_at draft o.place))

  data Good (after : ℕ) : Outcome → Type 0 where
    on : (state : State) → Valid after state → Good after (goes state)
    whole : (w : Whole) (o : Outcome) → Seen (text_of draft w) → Good after o → Good after (gives w o)
    over : (place to : ℕ) → Good after (ends place to)
    bad : (number place : ℕ) → Good after (refuses number place)

  module _ (number i after : ℕ) (e : character_at draft i ≡ Clean number after) where
    either_way :
        (t : Bool) {x y : Outcome} → (t ≡ true → Good after x) → (t ≡ false → Good after y) → Good after (if t then x else y)
    either_way true a b = a refl
    either_way false a b = b refl

    one_more : (place n : ℕ) → Begun place n i → visible number ≡ true → Begun place (n + 1) after
    one_more place n b v =
        let r = range number v in
        let one : encoded number ≡ number ∷ [] = encoded_one number (omega arith) in
        let size : length (encoded number) ≡ 1 = ap length one in
        let next_one : (m : ℕ) → clean (1 + m) (stream_at draft i) ≡ number ∷ clean m (stream_at draft after) =
        λ m.
        let left : 1 + m - 1 ≡ m = omega arith in
        clean_next draft i (1 + m) number after e (omega arith) ∙ rw (size, one, left) in
        let alone : clean 1 (stream_at draft i) ≡ number ∷ [] =
        clean_next draft i 1 number after e (omega arith) ∙ rw (size, one) (ap (λ l. number ∷ l) (clean_zero (stream_at draft after))) in
        let so_far : clean (n + 1) (stream_at draft place) ≡ clean n (stream_at draft place) ++ (number ∷ []) =
        b.more 1 ∙ ap (λ l. clean n (stream_at draft place) ++ l) alone in
        record {
          more =
              λ m.
              let regroup : n + 1 + m ≡ n + (1 + m) = omega arith in
              ap (λ k. clean k (stream_at draft place)) regroup
              ∙ (b.more (1 + m)
              ∙ (ap (λ l. clean n (stream_at draft place) ++ l) (next_one m)
              ∙ (sym (append_assoc (clean n (stream_at draft place)) (number ∷ []) (clean m (stream_at draft after)))
              ∙ ap (λ l. l ++ clean m (stream_at draft after)) (sym so_far))));
          seen = rw so_far (seen_append (clean n (stream_at draft place)) (number ∷ []) b.seen (r.0, r.1, tt));
        }

    first_one : visible number ≡ true → Begun i 1 after
    first_one v = let all : 0 + 1 ≡ 1 = omega arith in subst (λ k. Begun i k after) all (one_more i 0 (none_yet i) v)

    begins_good : Good after (begins number i after)
    unfolding begins opens simply text_of
    begins_good =
        either_way (white number) (λ t. on between tt)
        (λ w. either_way (eqb number 0x23) (λ t. on comment tt)
        (λ t. either_way (not (visible number)) (λ t. bad 6 i)
        (λ v. either_way (inclusive number) (λ t. on (string _ 0 1 false) (none_yet i).seen)
        (λ t. either_way (atomic number)
        (λ t. whole _ _ (first_one (not-false (visible number) v)).seen (on between tt))
        (λ t. either_way (eqb number 0x7C)
        (λ t. on (bar i) (first_one (not-false (visible number) v)))
        (λ t. on (word i 1) (first_one (not-false (visible number) v))))))))

    continues_good : (begun n : ℕ) → Begun begun n i → Good after (continues L begun n number i after)
    unfolding continues opens simply text_of
    continues_good begun n b =
        either_way (not (legal number)) (λ t. bad 6 i)
        (λ l. either_way (exclusive number) (λ t. whole _ _ b.seen begins_good)
        (λ x. either_way (inclusive number) (λ t. on (string _ 0 1 false) b.seen)
        (λ t. either_way (ltb n L.token)
        (λ t.
        let more-one : n + 1 ≡ suc n = omega arith in
        on (word begun (suc n))
        (subst (λ k. Begun begun k after) more-one (one_more begun n b (goes_on number (not-false (legal number) l) x))))
        (λ t. bad 8 i))))

    good : (state : State) → Valid i state → Good after (step L state number i after)
    unfolding step inside closed text_of
    good between v = begins_good
    good comment v = either_way (eqb number 0x0A) (λ t. on between tt) (λ t. on comment tt)
    good (bar begun) v = either_way (eqb number 0x3B) (λ t. over begun after) (λ t. continues_good begun 1 v)
    good (word begun n) v = continues_good begun n v
    good (string o n level odd) v =
        either_way (not odd && down o.sort number && eqb level 1) (λ t. whole _ _ v (on between tt))
        (λ t. either_way (ltb L.string (n + length (encoded number))) (λ t. bad 9 i) (λ l. on (string o _ _ _) v))

  followed :
      (after : ℕ) (o : Outcome) (rest : State → Tokens) → Good after o
      → ((state : State) → Valid after state → Clear Seen Any draft (rest state)) → Clear Seen Any draft (follows o rest)
  unfolding follows
  followed after o rest (on state v) f = f state v
  followed after o rest (whole w o' s g) f = (s, seen_tail (text_of draft w) s, tt, followed after o' rest g f)
  followed after o rest (over place to) f = tt
  followed after o rest (bad number place) f = tt

  walk : (k i : ℕ) (state : State) → length draft ≤ i + k → Valid i state → Clear Seen Any draft (tokens L state (stream_at draft i))
  unfolding tokens
  walk zero i state h v =
      by_character draft i
      (λ number after e here. absurd (omega (arith, (reaches draft i number after e).0, (reaches draft i number after e).1)))
      (λ refusal place here. rw here tt)
  walk (suc k) i state h v =
      by_character draft i
      (λ number after e here.
      let far = reaches draft i number after e in
      rw here
      (followed after _ _ (good number i after e state v) (λ state v. walk k after state (omega (arith, far.0)) v)))
      (λ refusal place here. rw here tt)

-- all text of every entity held
pub read_seen : (L : Limits) (room : Room) (draft : List ℕ) → Every Seen Any (read_with L room draft).entities
unfolding read_with refusal
read_seen L room draft =
    either (ltb L.draft (length draft))
    (λ t. rw t nothing)
    (λ t. rw t (all_clear Seen Any tt tt L draft room fresh _ (walk L draft (length draft) (start draft) between (omega arith) tt)))
