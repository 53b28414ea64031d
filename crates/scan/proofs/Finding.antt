-- What each piece tells, as its parts are put together.
use mathlib.Core.Path.{◌≡◌, refl, sym, ◌∙◌, ap}
use mathlib.Core.Bool.{Bool, true, false}
use mathlib.Core.List.{List}
use Prim.Native.Nat.{ℕ, ◌+◌, ◌-◌, ◌<◌, ◌≤◌}
use lib.Dec.{eqb}
use lib.ListN.{length, get_or}
use borrow.Author.Tests.{eq-eqb, ne_eqb}
use Rattle.chars.specs.Limits.{limits}
use Rattle.chars.specs.Stream.{stream_at}
use Rattle.chars.specs.declared.refusal.Refused.{Refused as Refusing}
use Rattle.std.specs.Prelude.{Result, Ok, Err, IfOk}
use Rattle.tokens.specs.Told.{whole_of, told_token, NoData, NoDataIn}
use Rattle.tokens.specs.declared.Sort.{Sort}
use Rattle.tokens.specs.declared.Sort.TheVariants.{Simple as IsSimple, Quoted as IsQuoted, Curly as IsCurly}
use Rattle.tokens.specs.declared.Token.{Token as Answer}
use Rattle.tokens.specs.declared.Token.TheVariants.{Whole, Last as IsLast}
use Rattle.tokens.specs.Tokens.{between, string, closed, shown, tokens, first, token_at}
use Rattle.tokens.specs.Runs.{opened_as, sort_of}
use Rattle.tokens.specs.Tokens.{Simple, Last}
use Rattle.scan.specs.Found.{Piece, piece_of, Finds, passes, tells, Closed}
use Rattle.scan.specs.Opens.{Stands, Opens}
use Rattle.scan.specs.Told.{told_piece}
use Rattle.scan.specs.declared.Piece.{Piece as Told}
use Rattle.scan.specs.declared.Piece.TheVariants.{Blank, Token}
use Rattle.scan.proofs.Places.{there}

-- what the general way tells, as a piece
abbrev pub pieced : Result Answer Refusing → Result Told Refusing
pieced (Ok t) = Ok (Token t)
pieced (Err r) = Err r

-- a whole token by its parts
parts :
    (s : Sort) (p a q f n : ℕ) → NoData (record { sort = s; place = p; after = a; prefix = q; from = f; length = n })
    → told_piece (Ok (Token (Whole (record { sort = s; place = p; after = a; prefix = q; from = f; length = n }))))
    ≡ piece_of (shown (whole_of (record { sort = s; place = p; after = a; prefix = q; from = f; length = n })))
unfolding piece_of shown
parts IsSimple p a q f n none = rw ((none refl).0, (none refl).1)
parts IsQuoted p a q f n none = refl
parts IsCurly p a q f n none = refl

general : (r : Result Answer Refusing) → IfOk r NoDataIn → told_piece (pieced r) ≡ piece_of (told_token r)
unfolding piece_of
general (Ok (Whole w)) none = parts w.sort w.place w.after w.prefix w.from w.length none
general (Ok (IsLast place after)) none = refl
general (Err r) none = refl

module _ (draft : List ℕ) (at : ℕ) where
  -- the first token as `tokens` has it
  pub general_told :
      Stands draft at → (r : Result Answer Refusing) → told_token r ≡ token_at limits draft at → IfOk r NoDataIn
      → Finds draft at (told_piece (pieced r))
  general_told s r e none = rw (general r none, e) (tells refl (there draft at s))

  -- whitespace or a comment
  pub passed_told :
      (after : ℕ) → at < after → after ≤ length draft
      → tokens limits between (stream_at draft at) ≡ tokens limits between (stream_at draft after)
      → Finds draft at (told_piece (Ok (Blank after)))
  passed_told after g h t = passes refl g h t

  pub simple_told :
      (after n : ℕ) → token_at limits draft at ≡ Simple at after n
      → (r : Piece) → r ≡ record { sort = 0; place = at; after = after; prefix = n; from = 0; bytes = 0; number = 0 }
      → Finds draft at r
  unfolding piece_of
  simple_told after n t r e = tells (e ∙ ap piece_of (sym t)) (λ some. ap (λ p. p.place) e)

  pub last_told : (after : ℕ) → token_at limits draft at ≡ Last at after → Finds draft at (told_piece (Ok (Token (IsLast at after))))
  unfolding piece_of
  last_told after t = tells (ap piece_of (sym t)) (λ some. refl)

  -- a string that is opened at `i` and closed
  string_is :
      (i after n : ℕ) (curly : Bool) → eqb (get_or draft i 0) 0x7B ≡ curly → Opens draft at i → Closed draft curly (i + 1) after n
      → token_at limits draft at ≡ shown (closed (opened_as curly at (i - at) (i + 1)) after n)
  string_is i after n curly c o d =
      o.is
      ∙ (ap
      (λ t. first (tokens limits (string (opened_as t at (i - at) (i + 1)) 0 1 false) (stream_at draft (i + 1))))
      c
      ∙ d.closes at (i - at))

  pub curly_told :
      (i after n : ℕ) → get_or draft i 0 ≡ 0x7B → Opens draft at i → Closed draft true (i + 1) after n
      → (r : Piece) → r ≡ record { sort = 2; place = at; after = after; prefix = i - at; from = i + 1; bytes = n; number = 0 }
      → Finds draft at r
  unfolding piece_of shown closed opened_as sort_of
  curly_told i after n c o d r e =
      tells (e ∙ ap piece_of (sym (string_is i after n true (eq-eqb (get_or draft i 0) 0x7B c) o d))) (λ some. ap (λ p. p.place) e)

  pub quoted_told :
      (i after n : ℕ) → (get_or draft i 0 ≡ 0x7B → ⊥) → Opens draft at i → Closed draft false (i + 1) after n
      → (r : Piece) → r ≡ record { sort = 1; place = at; after = after; prefix = i - at; from = i + 1; bytes = n; number = 0 }
      → Finds draft at r
  unfolding piece_of shown closed opened_as sort_of
  quoted_told i after n c o d r e =
      tells (e ∙ ap piece_of (sym (string_is i after n false (ne_eqb (get_or draft i 0) 0x7B c) o d))) (λ some. ap (λ p. p.place) e)
