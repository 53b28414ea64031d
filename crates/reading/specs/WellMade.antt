-- Entities that are well made, as those of a reading that succeeds are: each metacommand is closed and holds kinds 3 to 5 only, groups are
-- balanced and at most so many are open at a time, and the last entity and no other is an end.
use Rattle.std.specs.Prelude.{ℕ, suc, ◌-◌, Bool, true, false, ◌&&◌, List, [], ◌∷◌, ltb, eqb, length, if◌then◌else◌}
use Rattle.chars.specs.Limits.{Limits}
use Rattle.chars.specs.Choice.{within}
use Rattle.entities.specs.Entity.{Entity, kind_number}

-- entities inside a metacommand or not, with `depth` groups open
unfoldable pub made : (most : ℕ) → (metacommand : Bool) → (depth : ℕ) → List Entity → Bool
made most metacommand depth [] = false
made most true depth (e ∷ es) =
    let kind = kind_number e.kind in
    if eqb kind 2 then made most false depth es
    else within 3 5 kind && made most true depth es
made most false depth (e ∷ es) =
    let kind = kind_number e.kind in
    if eqb kind 1 then made most true depth es
    else if eqb kind 6 then ltb depth most && made most false (suc depth) es
    else if eqb kind 7 then ltb 0 depth && made most false (depth - 1) es
    else if eqb kind 17 then eqb depth 0 && eqb (length es) 0
    else within 8 16 kind && made most false depth es

unfoldable pub well_made : Limits → List Entity → Bool
well_made L es = made L.groups false 0 es
