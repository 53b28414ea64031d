-- Characters above US-ASCII, one behind the other.
use Rattle.std.specs.Prelude.{ℕ, ◌+◌, ◌≤◌, ◌≡◌, List, Option, IfSome, length}
use Rattle.chars.specs.Character.{character_at, encoded}
use Rattle.chars.specs.Character.{Clean}
use Rattle.wide.specs.declared.Bytes.{Bytes}

-- one at `i`, of so many bytes, of which cleaning takes `less` away
pub record Wider (draft : List ℕ) (i bytes less : ℕ) : Type 0 where
  pub number : ℕ
  pub high : 0x80 ≤ number
  pub is : character_at draft i ≡ Clean number (i + bytes)
  pub size : length (encoded number) + less ≡ bytes
  pub several : 2 ≤ bytes

-- from `at` up to `i`, of which cleaning takes `less` bytes away
pub data Wides (draft : List ℕ) (at : ℕ) : (i less : ℕ) → Type 0 where
  none : Wides draft at at 0
  more : (i bytes gone less : ℕ) → Wides draft at i gone → Wider draft i bytes less → Wides draft at (i + bytes) (gone + less)

-- one at `i` of so many bytes that cleaning leaves as they are, if any is told
abbrev pub Stays : (draft : List ℕ) → (i bytes : ℕ) → Option Bytes → Type 0
Stays draft i bytes told = IfSome told (λ c. (c.bytes ≡ bytes) × (c.less ≡ 0) × Wider draft i bytes 0)
