-- Entities and their 17 kinds (004, section 5; document 01, "From tokens to entities").
use Rattle.std.specs.Prelude.{ℕ, ◌+◌, List, [], ◌∷◌, ◌++◌, length}

pub data Kind : Type 0 where
  begin-metacommand end-metacommand metacommand-token metacommand-quoted metacommand-curly : Kind
  begin_group end-group array number quoted-string curly-string : Kind
  define-variable define-constant get put operation end : Kind

-- the kind's number, by document 01's table
unfoldable pub kind_number : Kind → ℕ
kind_number begin-metacommand = 1
kind_number end-metacommand = 2
kind_number metacommand-token = 3
kind_number metacommand-quoted = 4
kind_number metacommand-curly = 5
kind_number begin_group = 6
kind_number end-group = 7
kind_number array = 8
kind_number number = 9
kind_number quoted-string = 10
kind_number curly-string = 11
kind_number define-variable = 12
kind_number define-constant = 13
kind_number get = 14
kind_number put = 15
kind_number operation = 16
kind_number end = 17

pub record Entity : Type 0 where
  pub kind : Kind
  -- the first input byte of the token being handled
  pub place : ℕ
  -- a string's prefix, a name without its sign, or the whole token for kinds 3, 9 and 16; else empty
  pub text : List ℕ
  -- a string's clean data; else empty
  pub string : List ℕ
  -- an array's count; else 0
  pub count : ℕ

-- an entity with neither text, data nor count
unfoldable pub bare : Kind → (place : ℕ) → Entity
bare kind place = record { kind = kind; place = place; text = []; string = []; count = 0 }

-- how many bytes of the text buffer an entity takes
unfoldable pub size : Entity → ℕ
size e = length e.text + length e.string

unfoldable pub sizes : List Entity → ℕ
sizes [] = 0
sizes (e ∷ es) = size e + sizes es

-- Text, then data, entity by entity, fills the text buffer.
unfoldable pub texts : List Entity → List ℕ
texts [] = []
texts (e ∷ es) = e.text ++ (e.string ++ texts es)

-- Six numbers for each entity fill the list: kind, place, where its text stands in the text buffer, the lengths of its text and its
-- data, and its count (docs/LAYOUT.md). `at` bytes of text come before the first of them.
unfoldable pub rows : (at : ℕ) → List Entity → List ℕ
rows at [] = []
rows at (e ∷ es) =
    kind_number e.kind ∷ e.place ∷ at ∷ length e.text ∷ length e.string ∷ e.count ∷ rows (at + size e) es
