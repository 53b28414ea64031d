-- `texts::take_word` meets its contract: where there is no room nothing is written, and else its text makes its row a whole entity. Assumes
-- nothing.
use mathlib.Core.Path.{◌≡◌, refl, ap}
use Prim.Native.Nat.{◌+◌, ◌-◌}
use lib.ListN.{length, take, drop}
use native.Mathlib.Omega.{arith}
use Rattle.std.proofs.lemmas.Result.{err_from_is_err_and}
use Rattle.holding.specs.Kind.{kind_code}
use Rattle.entities.proofs.Listing.{number_of_code}
use Rattle.entities.proofs.Modes.{so_commanded}
use Rattle.texts.proofs.OneEntity.{undone}
use Rattle.texts.proofs.Roomed.{stopped_held, whole_held}
use Rattle.texts.proofs.take_word.Goals as goal

pub returns-in_err-state : goal.returns-in_err-state
returns-in_err-state c =
    let a = c.args in
    let p = c.requires in
    let cut = c.sign.result in
    let n = a.place + a.length - (a.place + cut) in
    let as-long : n ≡ a.length - cut = omega arith in
    let raw = take n (drop (a.place + cut) a.draft.now) in
    let out = err_from_is_err_and c.from_residual.result c.from_residual.ensures.1 in
    rw (out.1, out.2)
    (stopped_held a.draft.now a.s a.list.now a.text.now a.groups.now 0 a.place a.length 0 0 cut (kind_code c.kind-k.result)
    (omega arith) p.5 (λ e. (p.2, refl)) (λ e. rw (← p.0) p.1)
    (rw (← p.0, so_commanded a.s.mode _ _ c.eq.ensures refl) c.kind-k.ensures) c.sign.ensures.0 p.6
    raw (rw as-long) _ (ap (λ k. record {
      kind = k;
      place = a.place;
      text_at = a.s.text;
      text_len = length raw;
      data_len = 0;
      count = 0;
    }) c.code.ensures) _ c.held.new.list c.held.new.groups c.in_err-state.ensures)

pub returns : goal.returns
returns c =
    let a = c.args in
    let p = c.requires in
    let cut = c.sign.result in
    let n = a.place + a.length - (a.place + cut) in
    let as-long : n ≡ a.length - cut = omega arith in
    let raw = take n (drop (a.place + cut) a.draft.now) in
    let text = c.word_as_it_stands.new.text in
    whole_held a.draft.now a.s a.list.now a.text.now a.groups.now 0 a.place a.length 0 0 cut (kind_code c.kind-k.result)
    (omega arith) p.5 (λ e. (p.2, refl)) (λ e. rw (← p.0) p.1)
    (rw (← p.0, so_commanded a.s.mode _ _ c.eq.ensures refl) c.kind-k.ensures) c.sign.ensures.0 p.6
    raw (rw as-long) _ (ap (λ k. record {
      kind = k;
      place = a.place;
      text_at = a.s.text;
      text_len = length raw;
      data_len = 0;
      count = 0;
    }) c.code.ensures) c.in_ok-state.state c.held.new.list c.held.new.groups text text c.in_ok-state.ensures
    p.3 (omega arith) (number_of_code c.kind-k.result) c.word_as_it_stands.ensures
    (undone a.draft.now text (a.s.text + length raw) 0 0 refl)
