-- `texts::take` meets its contract: where there is no room nothing is written, and else its text and its data, if there is some, make its
-- row a whole entity. Assumes nothing.
use mathlib.Core.Path.{◌≡◌, refl, ap}
use Prim.Native.Nat.{◌+◌, ◌-◌, ◌≤◌}
use native.Mathlib.Omega.{arith}
use lib.ListN.{length, get_or, take, drop}
use Rattle.std.proofs.lemmas.Result.{err_from_is_err_and}
use Rattle.holding.specs.Kind.{kind_code}
use Rattle.entities.proofs.Listing.{number_of_code}
use Rattle.entities.proofs.Modes.{so_commanded}
use Rattle.texts.proofs.OneEntity.{cut_within, undone}
use Rattle.scan.specs.Told.{sort_code}
use Rattle.texts.proofs.Worded.{few, cut_some}
use Rattle.texts.proofs.Roomed.{stopped_held, whole_held}
use Rattle.texts.proofs.take.Goals as goal

pub slice_bounds-bytes-count : goal.slice_bounds-bytes-count
slice_bounds-bytes-count c =
    let a = c.args in
    let p = c.requires in
    let cut = c.sign in
    let within : cut.result ≤ a.w.prefix =
    cut_within (kind_code c.kind-k.result) cut.result a.w.prefix cut.ensures.0 cut.ensures.1
    (rw c.kind-k.ensures (cut_some (sort_code a.w.sort) (get_or a.draft.now a.w.place 0) c.eq.result a.w.prefix (few a.w.sort)
    (λ e. (p.1 e).0))) in
    omega arith

pub slice_bounds-bytes-start : goal.slice_bounds-bytes-start
slice_bounds-bytes-start c =
    let a = c.args in
    let p = c.requires in
    let cut = c.sign in
    let within : cut.result ≤ a.w.prefix =
    cut_within (kind_code c.kind-k.result) cut.result a.w.prefix cut.ensures.0 cut.ensures.1
    (rw c.kind-k.ensures (cut_some (sort_code a.w.sort) (get_or a.draft.now a.w.place 0) c.eq.result a.w.prefix (few a.w.sort)
    (λ e. (p.1 e).0))) in
    omega arith

pub returns-in_err-state : goal.returns-in_err-state
returns-in_err-state c =
    let a = c.args in
    let p = c.requires in
    let cut = c.sign.result in
    let n = a.w.place + a.w.prefix - (a.w.place + cut) in
    let as-long : n ≡ a.w.prefix - cut = omega arith in
    let raw = take n (drop (a.w.place + cut) a.draft.now) in
    let out = err_from_is_err_and c.from_residual.result c.from_residual.ensures.1 in
    rw (out.1, out.2)
    (stopped_held a.draft.now a.s a.list.now a.text.now a.groups.now (sort_code a.w.sort) a.w.place a.w.prefix a.w.from a.w.length cut
    (kind_code c.kind-k.result) (few a.w.sort) p.6 p.1 p.0 (rw (so_commanded a.s.mode _ _ c.eq.ensures refl) c.kind-k.ensures)
    c.sign.ensures.0 p.7
    raw (rw as-long) _ (ap (λ k. record {
      kind = k;
      place = a.w.place;
      text_at = a.s.text;
      text_len = length raw;
      data_len = a.w.length;
      count = 0;
    }) c.code.ensures) _ c.held.new.list c.held.new.groups c.in_err-state.ensures)

pub returns-then-w-ne0 : goal.returns-then-w-ne0
returns-then-w-ne0 c =
    let a = c.args in
    let p = c.requires in
    let cut = c.sign.result in
    let n = a.w.place + a.w.prefix - (a.w.place + cut) in
    let as-long : n ≡ a.w.prefix - cut = omega arith in
    let raw = take n (drop (a.w.place + cut) a.draft.now) in
    whole_held a.draft.now a.s a.list.now a.text.now a.groups.now (sort_code a.w.sort) a.w.place a.w.prefix a.w.from a.w.length cut
    (kind_code c.kind-k.result) (few a.w.sort) p.6 p.1 p.0 (rw (so_commanded a.s.mode _ _ c.eq.ensures refl) c.kind-k.ensures)
    c.sign.ensures.0 p.7
    raw (rw as-long) _ (ap (λ k. record {
      kind = k;
      place = a.w.place;
      text_at = a.s.text;
      text_len = length raw;
      data_len = a.w.length;
      count = 0;
    }) c.code.ensures) c.in_ok-state.state c.held.new.list c.held.new.groups c.as_it_stands.new.text c.fill.new.text
    c.in_ok-state.ensures p.3 p.4 (number_of_code c.kind-k.result) c.as_it_stands.ensures c.fill.ensures

pub returns-else-w-ne0 : goal.returns-else-w-ne0
returns-else-w-ne0 c =
    let a = c.args in
    let p = c.requires in
    let cut = c.sign.result in
    let n = a.w.place + a.w.prefix - (a.w.place + cut) in
    let as-long : n ≡ a.w.prefix - cut = omega arith in
    let raw = take n (drop (a.w.place + cut) a.draft.now) in
    let text = c.as_it_stands.new.text in
    whole_held a.draft.now a.s a.list.now a.text.now a.groups.now (sort_code a.w.sort) a.w.place a.w.prefix a.w.from a.w.length cut
    (kind_code c.kind-k.result) (few a.w.sort) p.6 p.1 p.0 (rw (so_commanded a.s.mode _ _ c.eq.ensures refl) c.kind-k.ensures)
    c.sign.ensures.0 p.7
    raw (rw as-long) _ (ap (λ k. record {
      kind = k;
      place = a.w.place;
      text_at = a.s.text;
      text_len = length raw;
      data_len = a.w.length;
      count = 0;
    }) c.code.ensures) c.in_ok-state.state c.held.new.list c.held.new.groups text text
    c.in_ok-state.ensures p.3 p.4 (number_of_code c.kind-k.result) c.as_it_stands.ensures
    (undone a.draft.now text (a.s.text + length raw) a.w.from a.w.length c.if-w-ne0.false)
