-- Where a token begins. What has begun at a place goes on until it is a token from that place on, or is refused; so where neither
-- whitespace nor a comment stands, the first token begins right there, if it is no refusal.
use mathlib.Core.Path.{◌≡◌, refl, sym, ◌∙◌, ap}
use mathlib.Core.Bool.{Bool, true, false, not, ◌&&◌}
use mathlib.Core.List.{List}
use Prim.Native.Nat.{ℕ, suc, ◌+◌, ◌<◌, ◌≤◌}
use native.Mathlib.Omega.{arith}
use lib.Dec.{ltb, eqb}
use lib.ListN.{length, get_or}
use borrow.Author.Tests.{ltb-true, ltb-false}
use Rattle.std.specs.Prelude.{if◌then◌else◌}
use Rattle.chars.specs.Limits.{Limits, limits}
use Rattle.chars.specs.Character.{character_at, encoded}
use Rattle.chars.specs.Stream.{Stream, next, stop, stream_at}
use Rattle.chars.specs.Character.{Clean}
use Rattle.chars.proofs.Cases.{either}
use Rattle.tokens.specs.Sorts.{visible, white, atomic, exclusive, inclusive, legal}
use Rattle.tokens.specs.Tokens.{Sort, simple, quoted, curly, Whole, simply, Tokens, token, last, refused, Opened, closed, State, between}
use Rattle.tokens.specs.Tokens.{bar, word, string, Outcome, goes, gives, ends, refuses, opens, begins, down, continues, inside}
use Rattle.tokens.specs.Tokens.{step, follows, tokens, shown, first, token_at}
use Rattle.tokens.proofs.Classes.{foreign}
use Rattle.tokens.proofs.Skipping.{alone_at, by_character, own_byte}
use Rattle.runs.specs.Bytes.{begins_of}
use Rattle.scan.specs.Found.{piece_of}
use Rattle.scan.specs.Opens.{Stands}
use Rattle.scan.proofs.Sorts.{begins_own, begins_neither, begins_nothing}

-- a token has begun at `b`
data Begun (b : ℕ) : State → Type 0 where
  barred : Begun b (bar b)
  worded : (n : ℕ) → Begun b (word b n)
  opened : (o : Opened) (n level : ℕ) (odd : Bool) → o.place ≡ b → Begun b (string o n level odd)

-- a character goes on with it, ends it, or is refused
data Leads (b : ℕ) : Outcome → Type 0 where
  on : (state : State) → Begun b state → Leads b (goes state)
  whole : (w : Whole) (o : Outcome) → w.place ≡ b → Leads b (gives w o)
  over : (after : ℕ) → Leads b (ends b after)
  bad : (number place : ℕ) → Leads b (refuses number place)

-- the first of some tokens begins at `b`, or is a refusal
data First (b : ℕ) : Tokens → Type 0 where
  whole : (w : Whole) (rest : Tokens) → w.place ≡ b → First b (token w rest)
  over : (after : ℕ) → First b (last b after)
  bad : (number place : ℕ) → First b (refused number place)

module _ (b : ℕ) where
  either_way : (t : Bool) {x y : Outcome} → Leads b x → Leads b y → Leads b (if t then x else y)
  either_way true p q = p
  either_way false p q = q

  opens_leads : (number n after : ℕ) → Leads b (opens number b n after)
  unfolding opens
  opens_leads number n after = on _ (opened _ 0 1 false refl)

  begins_leads : (number after : ℕ) → white number ≡ false → eqb number 0x23 ≡ false → Leads b (begins number b after)
  unfolding begins simply
  begins_leads number after w r =
      rw (w, r)
      (either_way (not (visible number)) (bad 6 b)
      (either_way (inclusive number) (opens_leads number 0 after)
      (either_way (atomic number) (whole _ _ refl) (either_way (eqb number 0x7C) (on _ barred) (on _ (worded 1))))))

  continues_leads : (L : Limits) (n number place after : ℕ) → Leads b (continues L b n number place after)
  unfolding continues simply
  continues_leads L n number place after =
      either_way (not (legal number)) (bad 6 place)
      (either_way (exclusive number) (whole _ _ refl)
      (either_way (inclusive number) (opens_leads number n after)
      (either_way (ltb n L.token) (on _ (worded (suc n))) (bad 8 place))))

  leads : (L : Limits) (state : State) → Begun b state → (number place after : ℕ) → Leads b (step L state number place after)
  unfolding step inside closed
  leads L state barred number place after =
      either_way (eqb number 0x3B) (over after) (continues_leads L 1 number place after)
  leads L state (worded n) number place after = continues_leads L n number place after
  leads L state (opened o n level odd e) number place after =
      either_way (not odd && down o.sort number && eqb level 1) (whole _ _ e)
      (either_way (ltb L.string (n + length (encoded number))) (bad 9 place) (on _ (opened o _ _ _ e)))

  followed :
      (o : Outcome) (rest : State → Tokens) → Leads b o → ((state : State) → Begun b state → First b (rest state))
      → First b (follows o rest)
  unfolding follows
  followed o rest (on state s) f = f state s
  followed o rest (whole w o' e) f = whole w _ e
  followed o rest (over after) f = over after
  followed o rest (bad number place) f = bad number place

  going : (L : Limits) (state : State) (s : Stream) → Begun b state → First b (tokens L state s)
  unfolding tokens
  going L state (stop refusal place) h = bad refusal place
  going L state (next number place after rest) h =
      followed (step L state number place after) _ (leads L state h number place after) (λ state k. going L state rest k)

  shown_place : (w : Whole) → (piece_of (shown w)).place ≡ w.place
  unfolding piece_of shown
  shown_place w = go w.sort refl
    where
      go : (s : Sort) → w.sort ≡ s → (piece_of (shown w)).place ≡ w.place
      go simple e = rw e
      go quoted e = rw e
      go curly e = rw e

  placed : (t : Tokens) → First b t → ((piece_of (first t)).sort ≡ 4 → ⊥) → (piece_of (first t)).place ≡ b
  unfolding piece_of first
  placed t (whole w rest e) some = shown_place w ∙ e
  placed t (over after) some = refl
  placed t (bad number place) some = absurd (some refl)

module _ (draft : List ℕ) (at : ℕ) where
  -- the first token begins where it is looked for
  pub there :
      Stands draft at → ((piece_of (token_at limits draft at)).sort ≡ 4 → ⊥) → (piece_of (token_at limits draft at)).place ≡ at
  unfolding token_at tokens step
  there s =
      placed at (tokens limits between (stream_at draft at))
      (by_character draft at
      (λ number after e is.
      let two = s.neither number after e in
      rw is
      (followed at (begins number at after) _ (begins_leads at number after two.0 two.1)
      (λ state k. going at limits state (stream_at draft after) k)))
      (λ refusal place is. rw is (bad refusal place)))

  -- what begins a token is neither whitespace nor a comment
  pub stands_token : at < length draft → 3 ≤ begins_of (get_or draft at 0) → Stands draft at
  stands_token h three =
      let b = get_or draft at 0 in
      let two = begins_neither b three in
      let is = alone_at draft at h (begins_own b (omega arith)) in
      record {
        neither = λ number after e.
            let same : b ≡ number = let z = sym is ∙ e in cc in
            (ap white (sym same) ∙ two.0, ap (λ n. eqb n 0x23) (sym same) ∙ two.1);
      }

  -- nor is what begins nothing, CR apart
  pub stands_other : begins_of (get_or draft at 0) ≡ 0 → (get_or draft at 0 ≡ 0x0D → ⊥) → Stands draft at
  stands_other k r =
      record {
        neither = λ number after e.
            either (ltb number 0x80)
            (λ l.
            let own = (own_byte draft at number after e (ltb-true number 0x80 l) r).1 in
            begins_nothing number (ap begins_of (sym own) ∙ k))
            (λ l. let f = foreign number (ltb-false number 0x80 l) in (f.no_white, f.no_remark));
      }

  -- nor is CR that is no character
  pub stands_none : ((number after : ℕ) → character_at draft at ≡ Clean number after → ⊥) → Stands draft at
  stands_none none = record { neither = λ number after e. absurd (none number after e) }
