-- No second answer meets the contract of a public function of `entities`, and no second content of the list. Of `begin_group` the array
-- of open groups is told by those that are open. What a token comes to is told by `agrees`, which leaves open what a state says behind a
-- refusal: of it there are no two answers that differ in the refusal, in what is held or in a buffer.
use mathlib.Core.Path.{◌≡◌, refl}
use mathlib.Core.List.{List, [], ◌∷◌}
use Prim.Native.Nat.{ℕ}
use native.Mathlib.Omega.{arith}
use contract.Lifetimes.{Lfts}
use borrow.Fn.Kinds.{Dens, ended_of}
use denote.Triple.Clauses.{AtExit}
use Rattle.std.specs.Prelude.{Result}
use Rattle.chars.specs.declared.refusal.Refusal.{Refusal}
use Rattle.chars.proofs.Only.{one, with_buffer, OneAnswer, OneOutcome}
use Rattle.entities.specs.Entity.{Entity}
use Rattle.entities.specs.Making.{Handled, stops, holds}
use Rattle.entities.specs.Stepping.{Fits, short, room, Ready, Took, Goes, Stops, took, agrees, Ruled}
use Rattle.entities.specs.declared.state.State.{State}
use Rattle.entities.specs.declared.state.Mode.{Mode}
use Rattle.entities.proofs.Modes.{same_mode}
use Rattle.entities.proofs as fn

pub mode :
    OneAnswer fn.state.ModeFromUsize.from.Kinds.ps fn.state.ModeFromUsize.from.Kinds.r fn.state.ModeFromUsize.from.Reads.Post
mode κs given a b x y p q = same_mode a b (one p.0 q.0) (one p.1 q.1)

pub array_begins : OneAnswer fn.arrays.array_begins.Kinds.ps fn.arrays.array_begins.Kinds.r fn.arrays.array_begins.Reads.Post
array_begins κs given a b x y = one

-- what fits is written, and else 18
fit :
    (s : State) (list : List ℕ) (es : List Entity) (mode : Mode) (depth : ℕ) (l m : List ℕ) (a b : Result State Refusal)
    → Fits s list es mode depth l a
    → Fits s list es mode depth m b → (a ≡ b) × (l ∷ [] ≡ m ∷ [])
fit s list es mode depth l m a b (short few p q) (short few' p' q') = with_buffer (p, q) (p', q')
fit s list es mode depth l m a b (short few p q) (room many q' p') = absurd (omega (arith, few, many))
fit s list es mode depth l m a b (room many q p) (short few p' q') = absurd (omega (arith, few, many))
fit s list es mode depth l m a b (room many q p) (room many' q' p') = with_buffer (p, q) (p', q')

pub one_entity : OneOutcome fn.bare.one.Kinds.ps fn.bare.one.Kinds.r fn.bare.one.Reads.Post (λ κs x. x.0.now ∷ [])
one_entity κs given a b x y p q = fit _ _ _ _ _ _ _ a b p q

pub two_entities : OneOutcome fn.bare.two.Kinds.ps fn.bare.two.Kinds.r fn.bare.two.Reads.Post (λ κs x. x.0.now ∷ [])
two_entities κs given a b x y p q = fit _ _ _ _ _ _ _ a b p q

pub begin_group :
    OneOutcome fn.brought.begin_group.Kinds.ps fn.brought.begin_group.Kinds.r fn.brought.begin_group.Reads.Post (λ κs x. x.0.now ∷ [])
begin_group κs given a b x y p q = with_buffer (p.0, p.1) (q.0, q.1)

-- Two answers about one token: the same refusal, and as much held.
unfoldable pub Same : Took → Took → Type 0
Same (Goes t) (Goes u) = (t.entities ≡ u.entities) × (t.text ≡ u.text)
Same (Goes t) (Stops m u) = ⊥
Same (Stops n t) (Goes u) = ⊥
Same (Stops n t) (Stops m u) = (n ≡ m) × (t.entities ≡ u.entities) × (t.text ≡ u.text)

pub agreed :
    (h : Handled) (a b : Took) (s : State) (list text l t g m u k : List ℕ) (place : ℕ) → agrees h a s list text l t g place
    → agrees h b s list text m u k place → Same a b × (l ≡ m) × (t ≡ u)
unfolding agrees Same
agreed (stops n) (Goes t) b s list text l ta g m u k place p q = absurd p
agreed (stops n) (Stops x t) (Goes v) s list text l ta g m u k place p q = absurd q
agreed (stops n) (Stops x t) (Stops y v) s list text l ta g m u k place p q =
    ((one p.0 q.0, one p.3 q.3, one p.4 q.4), one p.1 q.1, one p.2 q.2)
agreed (holds es left r) (Stops x t) b s list text l ta g m u k place p q = absurd p
agreed (holds es left r) (Goes t) (Stops y v) s list text l ta g m u k place p q = absurd q
agreed (holds es left r) (Goes t) (Goes v) s list text l ta g m u k place p q =
    ((one p.2 q.2, one p.3 q.3), one p.0 q.0, one p.1 q.1)

-- the same of a token that has no text
pub agreed_bare :
    (h : Handled) (a b : Took) (s : State) (list text l t g m u k : List ℕ) (place : ℕ) → agrees h a s list text l t g place
    → agrees h b s list text m u k place → Same a b × (l ≡ m)
agreed_bare h a b s list text l t g m u k place p q =
    let alike = agreed h a b s list text l t g m u k place p q in
    (alike.0, alike.1)

-- and of one whose byte tells its rules
by_its_rules :
    (c : ℕ) (s : State) (list groups text : List ℕ) (place : ℕ) (a b : Result State Refusal) (l g m k : List ℕ)
    → Ready s list text groups place
    → Ruled c 0 s list groups place a l g → Ruled c 0 s list groups place b m k → Same (took s a) (took s b) × (l ≡ m)
unfolding Ruled
by_its_rules c s list groups text place a b l g m k ready p q =
    agreed_bare _ (took s a) (took s b) _ _ _ _ _ _ _ _ _ _ (p (c ∷ []) text refl ready) (q (c ∷ []) text refl ready)

-- These ask for what is held so far, and their contracts speak of any text buffer that it fits: with one there are no two answers.
pub metacommand_begins :
    (κs : Lfts 2) (given : Dens κs fn.metacommands.metacommand_begins.Kinds.ps) (a b : Result State Refusal)
    (x y : AtExit (ended_of 2 fn.metacommands.metacommand_begins.Kinds.ps fn.metacommands.metacommand_begins.Kinds.r) κs) (text : List ℕ)
    → Ready given.1.1.0 given.0.now text given.1.0.now given.1.1.1.0
    → fn.metacommands.metacommand_begins.Reads.Post κs given a x → fn.metacommands.metacommand_begins.Reads.Post κs given b y
    → Same (took given.1.1.0 a) (took given.1.1.0 b) × (x.0.now ≡ y.0.now)
metacommand_begins κs given a b x y text ready p q = by_its_rules 0x25 _ _ _ text _ a b _ _ _ _ ready p q

pub metacommand_ends :
    (κs : Lfts 2) (given : Dens κs fn.metacommands.metacommand_ends.Kinds.ps) (a b : Result State Refusal)
    (x y : AtExit (ended_of 2 fn.metacommands.metacommand_ends.Kinds.ps fn.metacommands.metacommand_ends.Kinds.r) κs) (text : List ℕ)
    → Ready given.1.1.0 given.0.now text given.1.0.now given.1.1.1.0
    → fn.metacommands.metacommand_ends.Reads.Post κs given a x → fn.metacommands.metacommand_ends.Reads.Post κs given b y
    → Same (took given.1.1.0 a) (took given.1.1.0 b) × (x.0.now ≡ y.0.now)
metacommand_ends κs given a b x y text ready p q = by_its_rules 0x3B _ _ _ text _ a b _ _ _ _ ready p q

pub group_begins :
    (κs : Lfts 2) (given : Dens κs fn.groups.group_begins.Kinds.ps) (a b : Result State Refusal)
    (x y : AtExit (ended_of 2 fn.groups.group_begins.Kinds.ps fn.groups.group_begins.Kinds.r) κs) (text : List ℕ)
    → Ready given.1.1.0 given.0.now text given.1.0.now given.1.1.1.0
    → fn.groups.group_begins.Reads.Post κs given a x → fn.groups.group_begins.Reads.Post κs given b y
    → Same (took given.1.1.0 a) (took given.1.1.0 b) × (x.0.now ≡ y.0.now)
group_begins κs given a b x y text ready p q = by_its_rules 0x28 _ _ _ text _ a b _ _ _ _ ready p q

pub group_ends :
    (κs : Lfts 2) (given : Dens κs fn.groups.group_ends.Kinds.ps) (a b : Result State Refusal)
    (x y : AtExit (ended_of 2 fn.groups.group_ends.Kinds.ps fn.groups.group_ends.Kinds.r) κs) (text : List ℕ)
    → Ready given.1.1.0 given.0.now text given.1.0.now given.1.1.1.0
    → fn.groups.group_ends.Reads.Post κs given a x → fn.groups.group_ends.Reads.Post κs given b y
    → Same (took given.1.1.0 a) (took given.1.1.0 b) × (x.0.now ≡ y.0.now)
group_ends κs given a b x y text ready p q = by_its_rules 0x29 _ _ _ text _ a b _ _ _ _ ready p q

pub element_ends :
    (κs : Lfts 2) (given : Dens κs fn.arrays.element_ends.Kinds.ps) (a b : Result State Refusal)
    (x y : AtExit (ended_of 2 fn.arrays.element_ends.Kinds.ps fn.arrays.element_ends.Kinds.r) κs) (text : List ℕ)
    → Ready given.1.1.0 given.0.now text given.1.0.now given.1.1.1.0
    → fn.arrays.element_ends.Reads.Post κs given a x → fn.arrays.element_ends.Reads.Post κs given b y
    → Same (took given.1.1.0 a) (took given.1.1.0 b) × (x.0.now ≡ y.0.now)
element_ends κs given a b x y text ready p q = by_its_rules 0x2C _ _ _ text _ a b _ _ _ _ ready p q

pub array_ends :
    (κs : Lfts 2) (given : Dens κs fn.arrays.array_ends.Kinds.ps) (a b : Result State Refusal)
    (x y : AtExit (ended_of 2 fn.arrays.array_ends.Kinds.ps fn.arrays.array_ends.Kinds.r) κs) (text : List ℕ)
    → Ready given.1.1.0 given.0.now text given.1.0.now given.1.1.1.0
    → fn.arrays.array_ends.Reads.Post κs given a x → fn.arrays.array_ends.Reads.Post κs given b y
    → Same (took given.1.1.0 a) (took given.1.1.0 b) × (x.0.now ≡ y.0.now)
array_ends κs given a b x y text ready p q = by_its_rules 0x5D _ _ _ text _ a b _ _ _ _ ready p q
