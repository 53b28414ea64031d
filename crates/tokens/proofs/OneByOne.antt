-- The tokens of a draft come one after another: each ends within the draft, behind where it began, within the limits of length, and the
-- tokens behind it are those from the byte after it on. A character that ends a token, left out, is looked at once more as where no token
-- has begun.
use mathlib.Core.Path.{◌≡◌, refl, sym, ◌∙◌, ap, subst}
use mathlib.Core.Bool.{Bool, true, false, not, ◌&&◌, false≢true}
use mathlib.Core.List.{List}
use Prim.Native.Nat.{ℕ, zero, suc, ◌+◌, ◌<◌, ◌≤◌}
use native.Mathlib.Omega.{arith}
use lib.Dec.{eqb, ltb}
use lib.ListN.{length, get_or, take, drop}
use borrow.Author.Tests.{ltb-true, ltb-false, not-false}
use Rattle.std.specs.Prelude.{if◌then◌else◌}
use Rattle.chars.specs.Limits.{Limits}
use Rattle.chars.specs.Character.{character_at, encoded}
use Rattle.chars.specs.Stream.{next, stream_at}
use Rattle.chars.specs.Character.{Clean}
use Rattle.tokens.specs.Sorts.{visible, white, atomic, exclusive, inclusive, legal}
use Rattle.tokens.specs.Tokens.{simple, quoted, curly, Whole, Tokens, token, last, refused, Opened, State, between, comment, bar}
use Rattle.tokens.specs.Tokens.{word, string}
use Rattle.tokens.specs.Tokens.{Outcome, goes, gives, ends, refuses, simply, closed, opens, begins, continues, inside, down}
use Rattle.tokens.specs.Tokens.{step, follows, tokens}
use Rattle.chars.specs.Stream.{clean}
use Rattle.chars.proofs.Cases.{either}
use Rattle.chars.proofs.Extent.{encoded_one}
use Rattle.tokens.proofs.Passing.{class_at}
use Rattle.tokens.proofs.Classes.{foreign}
use Rattle.tokens.proofs.Skipping.{by_character, reaches, own_byte, own_class, cr_line}
use Rattle.tokens.proofs.Clean.{clean_zero}
use Rattle.tokens.proofs.Spans.{Spans, empty, longer, spans_on, spans_length, spans_raw}

-- a string is no simple token
not_quoted : quoted ≡ simple → ⊥
not_quoted e = let z : ◌≡◌ {A = ℕ} 0 1 = cc in omega arith

not_curly : curly ≡ simple → ⊥
not_curly e = let z : ◌≡◌ {A = ℕ} 0 1 = cc in omega arith

-- the byte after a simple token
simply_after : (place after n : ℕ) → (simply place after n).after ≡ after
unfolding simply
simply_after place after n = refl

module _ (L : Limits) (one : 1 ≤ L.token) (draft : List ℕ) where
  -- A token that begins at `from` or behind it: where it stands, how long it may be, and that its text and data are as long as it says. Its
  -- text is the draft's own bytes, and so is its data where that takes no more bytes than it has clean ones.
  pub record Sound (from : ℕ) (w : Whole) : Type 0 where
    pub behind : from ≤ w.place
    pub on : w.place < w.after
    pub there : w.after ≤ length draft
    pub short : w.prefix ≤ L.token
    pub brief : w.length ≤ L.string
    pub text_long : length (clean w.prefix (stream_at draft w.place)) ≡ w.prefix
    pub text_raw : clean w.prefix (stream_at draft w.place) ≡ take w.prefix (drop w.place draft)
    pub string_long : length (clean w.length (stream_at draft w.from)) ≡ w.length
    pub string_raw :
        w.after ≡ w.from + w.length + 1 → clean w.length (stream_at draft w.from) ≡ take w.length (drop w.from draft)
    pub opened : w.from < w.after
    -- a simple token has a first character, which is its own byte
    pub some : w.sort ≡ simple → 1 ≤ w.prefix
    pub own : 1 ≤ w.prefix → 1 ≤ class_at draft w.place

  -- the tokens from `from` on: a token and the tokens from the byte after it on, or an end
  pub data OneByOne (from : ℕ) : Tokens → Type 0 where
    more : (w : Whole) → Sound from w → OneByOne from (token w (tokens L between (stream_at draft w.after)))
    final : (place after : ℕ) → from ≤ place → place < after → after ≤ length draft → OneByOne from (last place after)
    none : (number place : ℕ) → OneByOne from (refused number place)

  -- a token or prefix of `n` bytes that began at `place`, up to `i`
  record Begun (from i place n : ℕ) : Type 0 where
    behind : from ≤ place
    short : n ≤ L.token
    some : 1 ≤ n
    own : 1 ≤ class_at draft place
    text : Spans draft place n i
    whole : i ≡ place + n

  -- a string with `n` clean bytes of data up to `i`
  record Inside (from i : ℕ) (o : Opened) (n : ℕ) : Type 0 where
    behind : from ≤ o.place
    before : o.place < i
    short : o.prefix ≤ L.token
    brief : n ≤ L.string
    text_end : ℕ
    text : Spans draft o.place o.prefix text_end
    text_whole : text_end ≡ o.place + o.prefix
    own : 1 ≤ o.prefix → 1 ≤ class_at draft o.place
    string_text : Spans draft o.from n i
    no_simple : o.sort ≡ simple → ⊥

  -- what a state knows of the token that has begun
  abbrev Valid : (from i : ℕ) → State → Type 0
  Valid from i between = from ≤ i
  Valid from i comment = from ≤ i
  Valid from i (bar place) = Begun from i place 1
  Valid from i (word place n) = Begun from i place n
  Valid from i (string o n level odd) = Inside from i o n

  -- what a character at `i` can come to
  data Shape (from number i after : ℕ) : Outcome → Type 0 where
    on : (state : State) → Valid from after state → Shape from number i after (goes state)
    whole : (w : Whole) → Sound from w → w.after ≡ after → Shape from number i after (gives w (goes between))
    left_out : (w : Whole) → Sound from w → w.after ≡ i → Shape from number i after (gives w (begins number i after))
    over : (place : ℕ) → from ≤ place → place < after → Shape from number i after (ends place after)
    bad : (refusal place : ℕ) → Shape from number i after (refuses refusal place)

  module _ (from number i after : ℕ) (f : from ≤ i) (e : character_at draft i ≡ Clean number after) where
    far : (i < after) × (after ≤ length draft)
    far = reaches draft i number after e

    either_way :
        (t : Bool) {x y : Outcome} → (t ≡ true → Shape from number i after x) → (t ≡ false → Shape from number i after y)
        → Shape from number i after (if t then x else y)
    either_way true a b = a refl
    either_way false a b = b refl

    -- a legal character other than LF is one byte, clean, and its own
    single :
        legal number ≡ true → (number ≡ 0x0A → ⊥)
        → (length (encoded number) ≡ 1) × (after ≡ i + 1) × (1 ≤ class_at draft i)
    single t line =
        let low : number < 0x80 =
        either (ltb number 0x80)
        (λ l. ltb-true number 0x80 l)
        (λ l. absurd (false≢true (sym (foreign number (ltb-false number 0x80 l)).no_legal ∙ t))) in
        let no_return : get_or draft i 0 ≡ 0x0D → ⊥ = λ c. line (cr_line draft i number after e c) in (
          ap length (encoded_one number low),
          (own_byte draft i number after e low no_return).0,
          (own_class draft i number after e low no_return).1,
        )

    -- the first character of a token
    first_one : white number ≡ false → visible number ≡ true → Begun from after i 1
    unfolding legal white
    first_one w v =
        let is = single (rw v) (λ l. false≢true (sym w ∙ ap white l)) in
        let size : 0 + length (encoded number) ≡ 1 = omega arith in
        record {
          behind = f;
          short = one;
          some = omega arith;
          own = is.2;
          text = rw size at (longer draft number after e (empty i));
          whole = is.1;
        }

    simply_sound : (begun n to : ℕ) → Begun from to begun n → to ≤ length draft → Sound from (simply begun to n)
    unfolding simply
    simply_sound begun n to b m =
        record {
          behind = b.behind;
          on = omega (arith, b.some, b.whole);
          there = m;
          short = b.short;
          brief = omega arith;
          text_long = spans_length draft b.text;
          text_raw = spans_raw draft b.text b.whole;
          string_long = ap length (clean_zero (stream_at draft 0));
          string_raw = λ h. clean_zero (stream_at draft 0);
          opened = omega (arith, b.some, b.whole);
          some = λ s. b.some;
          own = λ s. b.own;
        }

    opens_shape :
        (begun n to : ℕ) → from ≤ begun → begun < after → n ≤ L.token → Spans draft begun n to → to ≡ begun + n
        → (1 ≤ n → 1 ≤ class_at draft begun) → Shape from number i after (opens number begun n after)
    unfolding opens
    opens_shape begun n to g h k s r w =
        on
        (string (record { sort = if eqb number 0x22 then quoted else curly; place = begun; prefix = n; from = after }) 0 1 false)
        (record {
          behind = g;
          before = h;
          short = k;
          brief = omega arith;
          text_end = to;
          text = s;
          text_whole = r;
          own = w;
          string_text = empty after;
          no_simple = λ s. either (eqb number 0x22) (λ t. not_quoted (rw t at s)) (λ t. not_curly (rw t at s));
        })

    begins_shape : Shape from number i after (begins number i after)
    unfolding begins
    begins_shape =
        either_way (white number) (λ t. on between (omega (arith, far.0)))
        (λ w. either_way (eqb number 0x23) (λ t. on comment (omega (arith, far.0)))
        (λ t. either_way (not (visible number)) (λ t. bad 6 i)
        (λ v. either_way (inclusive number)
        (λ t. opens_shape i 0 i f far.0 (omega arith) (empty i) (omega arith) (λ h. absurd (omega arith)))
        (λ t. either_way (atomic number)
        (λ t. whole _ (simply_sound i 1 after (first_one w (not-false (visible number) v)) far.1) (simply_after i after 1))
        (λ t. either_way (eqb number 0x7C)
        (λ t. on (bar i) (first_one w (not-false (visible number) v)))
        (λ t. on (word i 1) (first_one w (not-false (visible number) v))))))))

    continues_shape : (begun n : ℕ) → Begun from i begun n → Shape from number i after (continues L begun n number i after)
    unfolding continues exclusive
    continues_shape begun n b =
        either_way (not (legal number)) (λ t. bad 6 i)
        (λ t. either_way (exclusive number)
        (λ t. left_out _ (simply_sound begun n i b (omega (arith, far.0, far.1))) (simply_after begun i n))
        (λ x. either_way (inclusive number)
        (λ t. opens_shape begun n i b.behind (omega (arith, b.whole, far.0)) b.short b.text b.whole (λ h. b.own))
        (λ t3. either_way (ltb n L.token)
        (λ l.
        let is = single (not-false (legal number) t) (λ l. false≢true (sym x ∙ ap exclusive l)) in
        let more : n + length (encoded number) ≡ suc n = omega arith in
        on (word begun (suc n))
        (record {
          behind = b.behind;
          short = ltb-true n L.token l;
          some = omega arith;
          own = b.own;
          text = rw more at (longer draft number after e b.text);
          whole = omega (arith, b.whole, is.1);
        }))
        (λ t. bad 8 i))))

    inside_shape :
        (o : Opened) (n level : ℕ) (odd : Bool) → Inside from i o n → Shape from number i after (inside L o n level odd number i after)
    unfolding inside closed
    inside_shape o n level odd b =
        either_way (not odd && down o.sort number && eqb level 1)
        (λ t.
        whole _
        (record {
          behind = b.behind;
          on = omega (arith, b.before, far.0);
          there = far.1;
          short = b.short;
          brief = b.brief;
          text_long = spans_length draft b.text;
          text_raw = spans_raw draft b.text b.text_whole;
          string_long = spans_length draft b.string_text;
          string_raw = λ h. spans_raw draft b.string_text (omega (arith, spans_on draft b.string_text, far.0));
          opened = omega (arith, spans_on draft b.string_text, far.0);
          some = λ s. absurd (b.no_simple s);
          own = b.own;
        }) refl)
        (λ t. either_way (ltb L.string (n + length (encoded number))) (λ t. bad 9 i)
        (λ l.
        on _
        (record {
          behind = b.behind;
          before = omega (arith, b.before, far.0);
          short = b.short;
          brief = ltb-false L.string (n + length (encoded number)) l;
          text_end = b.text_end;
          text = b.text;
          text_whole = b.text_whole;
          own = b.own;
          string_text = longer draft number after e b.string_text;
          no_simple = b.no_simple;
        })))

    shape : (state : State) → Valid from i state → Shape from number i after (step L state number i after)
    unfolding step
    shape between v = begins_shape
    shape comment v =
        either_way (eqb number 0x0A) (λ t. on between (omega (arith, far.0))) (λ t. on comment (omega (arith, far.0)))
    shape (bar begun) v =
        either_way (eqb number 0x3B)
        (λ t. over begun v.behind (omega (arith, v.whole, far.0)))
        (λ t. continues_shape begun 1 v)
    shape (word begun n) v = continues_shape begun n v
    shape (string o n level odd) v = inside_shape o n level odd v

  -- from what a character comes to, to the tokens
  module _ (from number i after : ℕ) (here : stream_at draft i ≡ next number i after (stream_at draft after)) where
    from_shape :
        (o : Outcome) → Shape from number i after o → after ≤ length draft
        → ((state : State) → Valid from after state → OneByOne from (tokens L state (stream_at draft after)))
        → OneByOne from (follows o (λ state. tokens L state (stream_at draft after)))
    unfolding follows tokens step
    from_shape o (on state v) m rest = rest state v
    from_shape o (whole w s e) m rest =
        subst (λ j. OneByOne from (token w (tokens L between (stream_at draft j)))) e (more w s)
    from_shape o (left_out w s e) m rest =
        rw here at (subst (λ j. OneByOne from (token w (tokens L between (stream_at draft j)))) e (more w s))
    from_shape o (over place g h) m rest = final place after g h m
    from_shape o (bad refusal place) m rest = none refusal place

  walk :
      (k from i : ℕ) (state : State) → length draft ≤ i + k → from ≤ i → Valid from i state
      → OneByOne from (tokens L state (stream_at draft i))
  unfolding tokens
  walk zero from i state h f v =
      by_character draft i
      (λ number after e here. absurd (omega (arith, (reaches draft i number after e).0, (reaches draft i number after e).1)))
      (λ refusal place here. rw here (none refusal place))
  walk (suc k) from i state h f v =
      by_character draft i
      (λ number after e here.
      let far = reaches draft i number after e in
      rw here
      (from_shape from number i after here (step L state number i after)
      (shape from number i after f e state v)
      far.1
      (λ state v. walk k from after state (omega (arith, far.0)) (omega (arith, far.0)) v)))
      (λ refusal place here. rw here (none refusal place))

  -- from every place of the draft on
  pub one_by_one : (i : ℕ) → OneByOne i (tokens L between (stream_at draft i))
  one_by_one i = walk (length draft) i i between (omega arith) (omega arith) (omega arith)
