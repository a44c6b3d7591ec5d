-- The tokens of a condition, read.
use Rattle.std.proofs.Common.{List, [], ◌∷◌, ◌++◌, codes, sym, subst, append-nil}
use Rattle.fs_litmus_tokens.specs.Tokens.{Tok, Sign, Lined, word}
use Rattle.fs_litmus_tokens.specs.Words.{class_of, keyword_of}
use Rattle.fs_litmus_tokens.specs.declared.token.Mark.TheVariants as mark
use Rattle.fs_litmus_syntax.specs.Grammar as syntax
use Rattle.fs_litmus_syntax.specs.Grammar.{Syntax, IsUnit, IsConjunction, IsDisjunction, disjunction, nothing, IsCondition, complete, once, atom, truth, falsity, tilde, group, unit, both, conjunction, either}
use Rattle.fs_model.specs.Condition as condition
use Rattle.fs_model.specs.Condition.{Condition}
use Rattle.fs_model.specs.declared.test.Location as locations
use Rattle.fs_litmus.specs.Locations.{Binding}
use Rattle.fs_litmus.specs.inner.Written.{syntax_of, syntax_toks, binding_toks}
use Rattle.fs_litmus.proofs.PrintedFormLines.{Are, next, none, regrouped, Begins, first}
use Rattle.fs_litmus.proofs.PrintedFormEntries.{Fits, binding}

-- its atoms are of words that fit
abbrev pub FitsSyntax : Syntax → Type 0
FitsSyntax (syntax.Atom t v) = Fits (t, v)
FitsSyntax syntax.True = Unit {0}
FitsSyntax syntax.False = Unit {0}
FitsSyntax (syntax.Deny s) = FitsSyntax s
FitsSyntax (syntax.Group s) = FitsSyntax s
FitsSyntax (syntax.Both a b) = FitsSyntax a × FitsSyntax b
FitsSyntax (syntax.Either a b) = FitsSyntax a × FitsSyntax b

an_atom : {ts : List Lined} (b : Binding) (toks : List Tok) → Fits b → Are ts (binding_toks b ++ toks) → Begins IsUnit ts (syntax.Atom b.0 b.1) toks
an_atom b toks fits are =
    let one = binding b toks fits are in
    record { rest = one.rest; is = atom one.is_target once one.is_value; are = one.are }

truth_read : {ts : List Lined} (toks : List Tok) → Are ts (word (codes "true") ∷ toks) → Begins IsUnit ts syntax.True toks
unfolding class_of keyword_of
truth_read toks (next are) = record { rest = _; is = truth; are = are }

falsity_read : {ts : List Lined} (toks : List Tok) → Are ts (word (codes "false") ∷ toks) → Begins IsUnit ts syntax.False toks
unfolding class_of keyword_of
falsity_read toks (next are) = record { rest = _; is = falsity; are = are }

denied : {ts : List Lined} (s : Syntax) (toks : List Tok) → ((more : List Lined) → Are more (syntax_toks s ++ toks) → Begins IsUnit more s toks) → Are ts (Sign mark.Tilde ∷ (syntax_toks s ++ toks)) → Begins IsUnit ts (syntax.Deny s) toks
denied s toks of (next {ts = ts} are) =
    let inner = of ts are in
    record { rest = inner.rest; is = tilde inner.is; are = inner.are }

-- a condition in parentheses
grouped : {ts : List Lined} (s : Syntax) (toks : List Tok) → ((more : List Lined) (m : List Tok) → Are more (syntax_toks s ++ m) → Begins IsDisjunction more s m) → Are ts (syntax_toks (syntax.Group s) ++ toks) → Begins IsUnit ts (syntax.Group s) toks
grouped s toks of (next {ts = ts} are) =
    let inner = of ts (Sign mark.CloseParen ∷ toks) (regrouped (syntax_toks s) (Sign mark.CloseParen ∷ []) toks are) in
    let end = first inner.are in
    record { rest = end.rest; is = group (disjunction (subst (λ m. IsDisjunction ts s m) end.split inner.is)); are = end.are }

-- its tokens are one unit, whatever follows them
abbrev Units : Syntax → Type 0
Units s = (ts : List Lined) (toks : List Tok) → Are ts (syntax_toks s ++ toks) → Begins IsUnit ts s toks

both_read : (a b : Syntax) → Units a → Units b → (ts : List Lined) (toks : List Tok) → Are ts (syntax_toks (syntax.Both a b) ++ toks) → Begins IsDisjunction ts (syntax.Both a b) toks
both_read a b of_a of_b ts toks are =
    let one = of_a ts _ (regrouped (syntax_toks a) (Sign mark.And ∷ syntax_toks b) toks are) in
    let mark_between = first one.are in
    let two = of_b mark_between.rest toks mark_between.are in
    record { rest = two.rest; is = conjunction (both (unit (subst (λ m. IsUnit ts a m) mark_between.split one.is)) two.is); are = two.are }

either_read : (a b : Syntax) → Units a → Units b → (ts : List Lined) (toks : List Tok) → Are ts (syntax_toks (syntax.Either a b) ++ toks) → Begins IsDisjunction ts (syntax.Either a b) toks
either_read a b of_a of_b ts toks are =
    let one = of_a ts _ (regrouped (syntax_toks a) (Sign mark.Or ∷ syntax_toks b) toks are) in
    let mark_between = first one.are in
    let two = of_b mark_between.rest toks mark_between.are in
    record { rest = two.rest; is = either (conjunction (unit (subst (λ m. IsUnit ts a m) mark_between.split one.is))) (unit two.is); are = two.are }

-- the printed form of a condition is one unit
units : (ls : List locations.Location) (c : Condition) → FitsSyntax (syntax_of ls c) → Units (syntax_of ls c)
units ls condition.Always fits ts toks are = truth_read toks are
units ls condition.Never fits ts toks are = falsity_read toks are
units ls (condition.RegisterIs hart reg w) fits ts toks are = an_atom _ toks fits are
units ls (condition.LocationIs location w) fits ts toks are = an_atom _ toks fits are
units ls (condition.Deny c) fits ts toks are = denied (syntax_of ls c) toks (λ more inner. units ls c fits more toks inner) are
units ls (condition.Both c d) fits ts toks are = grouped _ toks (λ more m inner. both_read (syntax_of ls c) (syntax_of ls d) (units ls c fits.0) (units ls d fits.1) more m inner) are
units ls (condition.Either c d) fits ts toks are = grouped _ toks (λ more m inner. either_read (syntax_of ls c) (syntax_of ls d) (units ls c fits.0) (units ls d fits.1) more m inner) are

ended : {ts rest : List Lined} {s : Syntax} → IsDisjunction ts s rest → Are rest [] → IsCondition ts s
ended is none = complete (disjunction is) nothing

pub condition_read : {ts : List Lined} (ls : List locations.Location) (c : Condition) → FitsSyntax (syntax_of ls c) → Are ts (syntax_toks (syntax_of ls c)) → IsCondition ts (syntax_of ls c)
condition_read {ts = ts} ls c fits are =
    let all = units ls c fits ts [] (subst (Are ts) (sym (append-nil (syntax_toks (syntax_of ls c)))) are) in
    ended (conjunction (unit all.is)) all.are
