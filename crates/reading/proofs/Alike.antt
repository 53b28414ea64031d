-- Where the same was read, two readings give the same answer and hold the same at the front of each buffer, whatever the buffers held
-- before and however long they are.
use Prim.Native.Nat.{ℕ, ◌*◌}
use mathlib.Core.Path.{◌≡◌, refl, sym, ◌∙◌}
use mathlib.Core.List.{List}
use lib.ListN.{length, take}
use lib.Seq.{take-append_seam}
use Rattle.chars.specs.Limits.{Limits}
use Rattle.entities.specs.Entity.{sizes, texts, rows}
use Rattle.entities.proofs.Listing.{texts_length, rows_length}
use Rattle.reading.specs.Reading.{Read, Reading, read_with, answered, room_of, reading}

-- the same answer, and the same held at the front of each buffer
pub record Alike (c d : Reading) : Type 0 where
  pub answers : d.answer ≡ c.answer
  pub lists : take (6 * c.answer.entities) d.list ≡ take (6 * c.answer.entities) c.list
  pub texts_held : take c.answer.text d.text ≡ take c.answer.text c.text

-- what was read stands at the front of each buffer
front :
    (list text : List ℕ) (r : Read)
    → (take (6 * length r.entities) (answered list text r).list ≡ rows 0 r.entities)
    × (take (sizes r.entities) (answered list text r).text ≡ texts r.entities)
unfolding answered
front list text r =
    let es = r.entities in
    (rw (← rows_length 0 es) (take-append_seam (rows 0 es) _), rw (← texts_length es) (take-append_seam (texts es) _))

module _ (list text list' text' : List ℕ) where
  pub answered_alike : (r : Read) → Alike (answered list text r) (answered list' text' r)
  unfolding answered
  answered_alike r =
      record {
        answers = refl;
        lists = (front list' text' r).0 ∙ sym (front list text r).0;
        texts_held = (front list' text' r).1 ∙ sym (front list text r).1;
      }

  pub reading_alike :
      (L : Limits) (draft draft' : List ℕ) → read_with L (room_of list' text') draft' ≡ read_with L (room_of list text) draft
      → Alike (reading L draft list text) (reading L draft' list' text')
  unfolding reading
  reading_alike L draft draft' same = rw same (answered_alike (read_with L (room_of list text) draft))
