-- `cells::act` meets its contract: each arm is the definition at the number of its kind. Assumes nothing.
use mathlib.Core.Path.{◌≡◌, sym, ◌∙◌, ap}
use mathlib.Core.List.{List}
use mathlib.Core.Logic.{⊎_elim}
use Prim.Native.Nat.{ℕ, ◌+◌}
use Rattle.holding.specs.Kind.{kind_code}
use Rattle.holding.specs.declared.rows.Kind.{Kind}
use Rattle.holding.specs.declared.rows.Kind.TheVariants.{BeginGroup, EndGroup, Array, Number, QuotedString, CurlyString, DefineVariable, DefineConstant, Get, Put, Operation}
use Rattle.holding.proofs.Coded.{same_kind}
use Rattle.sight.specs.Arrays.{cell_of, state_of}
use Rattle.sight.specs.Stacks.{meant, ready}
use Rattle.sight.specs.Row.{kind_in, place_in, text_at_in, text_len_in, data_len_in, count_in, text_in, text_by}
use Rattle.holding.specs.declared.rows.Row.{Row}
use Rattle.sight.proofs.Sight.{counted_cell}
use Rattle.cells.proofs.Acting.{at_begin, at_end, at_array, at_number, at_quoted, at_curly, at_variable, at_constant}
use Rattle.cells.proofs.Acting.{at_get, at_put, at_operation, at_other}
use Rattle.cells.proofs.act.Goals as goal

-- the row that was read
module _
    (list : List ℕ) (i : ℕ) (row : Row)
    (read :
    row
    ≡ record {
      kind = kind_in list i;
      place = place_in list i;
      text_at = text_at_in list i;
      text_len = text_len_in list i;
      data_len = data_len_in list i;
      count = count_in list i;
    }) where
  its_number : (k l : Kind) → kind_code k ≡ row.kind → k ≡ l → kind_in list i ≡ kind_code l
  its_number k l e h = sym (ap (λ r. r.kind) read) ∙ sym e ∙ ap kind_code h

  its_text : (text : List ℕ) → text_by row text ≡ text_in list text i
  unfolding text_in
  its_text text = ap (λ r. text_by r text) read

pub returns-in_default : goal.returns-in_default
unfolding meant ready kind_code
returns-in_default c =
    let e = ap (λ r. r.kind) c.of-row.ensures in
    let none = c.in_default.ensures.1 in
    record {
      same = sym (at_other _ _ _ _ _ _ _
          (λ h. none BeginGroup (sym (e ∙ h)))
          (λ h. none EndGroup (sym (e ∙ h)))
          (λ h. none Array (sym (e ∙ h)))
          (λ h. none Number (sym (e ∙ h)))
          (λ h. none QuotedString (sym (e ∙ h)))
          (λ h. none CurlyString (sym (e ∙ h)))
          (λ h. none DefineVariable (sym (e ∙ h)))
          (λ h. none DefineConstant (sym (e ∙ h)))
          (λ h. none Get (sym (e ∙ h)))
          (λ h. none Put (sym (e ∙ h)))
          (λ h. none Operation (sym (e ∙ h))));
      on = c.requires.3;
    }

pub hide-requires : goal.hide-requires
unfolding kind_code
hide-requires c =
    let a = c.args in
    let is = its_number a.list.now a.i c.of-row.result c.of-row.ensures c.in-Ok.kind BeginGroup c.in-Ok.ensures c.in-BeginGroup.is in
    (c.requires.0.begins is, c.requires.3.0.few)

pub show-requires : goal.show-requires
unfolding kind_code
show-requires c =
    let a = c.args in
    let is = its_number a.list.now a.i c.of-row.result c.of-row.ensures c.in-Ok.kind EndGroup c.in-Ok.ensures c.in-EndGroup.is in
    (c.requires.0.ends is, c.requires.3.1, c.requires.3.0.few)

pub returns-in-BeginGroup : goal.returns-in-BeginGroup
unfolding kind_code
returns-in-BeginGroup c =
    let a = c.args in
    let is = its_number a.list.now a.i c.of-row.result c.of-row.ensures c.in-Ok.kind BeginGroup c.in-Ok.ensures c.in-BeginGroup.is in
    rw at_begin (c.hide.ensures.answer a.text.now c.requires.3)

pub returns-in-EndGroup : goal.returns-in-EndGroup
unfolding kind_code state_of
returns-in-EndGroup c =
    let a = c.args in
    let is = its_number a.list.now a.i c.of-row.result c.of-row.ensures c.in-Ok.kind EndGroup c.in-Ok.ensures c.in-EndGroup.is in
    rw at_end (c.show.ensures.answer a.text.now c.requires.3)

pub returns-in-Array : goal.returns-in-Array
unfolding kind_code
returns-in-Array c =
    let a = c.args in
    let is = its_number a.list.now a.i c.of-row.result c.of-row.ensures c.in-Ok.kind Array c.in-Ok.ensures c.in-Array.is in
    let count = c.from.ensures ∙ ap (λ r. r.count) c.of-row.ensures in
    let cell = ap cell_of (ap (λ n. n + 16) count) ∙ counted_cell (count_in a.list.now a.i) in
    rw (at_array, ← cell) (c.push.ensures.answer a.text.now c.requires.3)

pub returns-in-Number : goal.returns-in-Number
unfolding kind_code cell_of
returns-in-Number c =
    let a = c.args in
    let is = its_number a.list.now a.i c.of-row.result c.of-row.ensures c.in-Ok.kind Number c.in-Ok.ensures c.in-Number.is in
    rw at_number (c.push-in-Number.ensures.answer a.text.now c.requires.3)

pub returns-in-QuotedString : goal.returns-in-QuotedString
unfolding kind_code cell_of
returns-in-QuotedString c =
    let a = c.args in
    let its = its_number a.list.now a.i c.of-row.result c.of-row.ensures c.in-Ok.kind in
    let pushed = c.push-in-QuotedString.ensures.answer a.text.now c.requires.3 in
    ⊎_elim
    (λ q. let is = its QuotedString c.in-Ok.ensures q in rw at_quoted pushed)
    (λ q. let is = its CurlyString c.in-Ok.ensures q in rw at_curly pushed)
    c.in-QuotedString.is

pub returns-in-DefineVariable : goal.returns-in-DefineVariable
unfolding kind_code state_of
returns-in-DefineVariable c =
    let a = c.args in
    let is = its_number a.list.now a.i c.of-row.result c.of-row.ensures c.in-Ok.kind DefineVariable c.in-Ok.ensures c.in-DefineVariable.is in
    rw (at_variable, ← its_text a.list.now a.i c.of-row.result c.of-row.ensures a.text.now) (c.fix.ensures.answer c.requires.3.1)

pub returns-in-DefineConstant : goal.returns-in-DefineConstant
unfolding kind_code state_of
returns-in-DefineConstant c =
    let a = c.args in
    let is = its_number a.list.now a.i c.of-row.result c.of-row.ensures c.in-Ok.kind DefineConstant c.in-Ok.ensures c.in-DefineConstant.is in
    rw (at_constant, ← its_text a.list.now a.i c.of-row.result c.of-row.ensures a.text.now)
    (c.fix-in-DefineConstant.ensures.answer c.requires.3.1)

pub returns-in-Get : goal.returns-in-Get
unfolding kind_code state_of
returns-in-Get c =
    let a = c.args in
    let is = its_number a.list.now a.i c.of-row.result c.of-row.ensures c.in-Ok.kind Get c.in-Ok.ensures c.in-Get.is in
    rw (at_get, ← its_text a.list.now a.i c.of-row.result c.of-row.ensures a.text.now) (c.get.ensures.answer c.requires.3.1)

pub returns-in-Put : goal.returns-in-Put
unfolding kind_code state_of
returns-in-Put c =
    let a = c.args in
    let is = its_number a.list.now a.i c.of-row.result c.of-row.ensures c.in-Ok.kind Put c.in-Ok.ensures c.in-Put.is in
    rw (at_put, ← its_text a.list.now a.i c.of-row.result c.of-row.ensures a.text.now) (c.put.ensures.answer c.requires.3.1)

pub returns-in-Operation : goal.returns-in-Operation
unfolding kind_code
returns-in-Operation c =
    let a = c.args in
    let is = its_number a.list.now a.i c.of-row.result c.of-row.ensures c.in-Ok.kind Operation c.in-Ok.ensures c.in-Operation.is in
    rw (at_operation, ← its_text a.list.now a.i c.of-row.result c.of-row.ensures a.text.now) (c.operate.ensures.answer a.i c.requires.3)

pub returns-in_default-kind : goal.returns-in_default-kind
unfolding meant ready kind_code
returns-in_default-kind c =
    let a = c.args in
    let n = c.in_default-kind in
    let k = c.in-Ok.kind in
    let e = c.in-Ok.ensures ∙ ap (λ r. r.kind) c.of-row.ensures in
    record {
      same = sym (at_other _ _ _ _ _ _ _
          (λ h. n.not-BeginGroup (same_kind k BeginGroup (e ∙ h)))
          (λ h. n.not-EndGroup (same_kind k EndGroup (e ∙ h)))
          (λ h. n.not-Array (same_kind k Array (e ∙ h)))
          (λ h. n.not-Number (same_kind k Number (e ∙ h)))
          (λ h. n.not-QuotedString (same_kind k QuotedString (e ∙ h)))
          (λ h. n.not-CurlyString (same_kind k CurlyString (e ∙ h)))
          (λ h. n.not-DefineVariable (same_kind k DefineVariable (e ∙ h)))
          (λ h. n.not-DefineConstant (same_kind k DefineConstant (e ∙ h)))
          (λ h. n.not-Get (same_kind k Get (e ∙ h)))
          (λ h. n.not-Put (same_kind k Put (e ∙ h)))
          (λ h. n.not-Operation (same_kind k Operation (e ∙ h))));
      on = c.requires.3;
    }
