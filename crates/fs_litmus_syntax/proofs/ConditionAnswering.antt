-- What the reader answers, by the grammar.
use Rattle.std.proofs.Common.{◌≡◌, ℕ, ◌+◌, ◌<◌, List, [], ◌∷◌, ◌++◌, length, drop, get_or, Bool, true, false, Some, None, Result, Ok, Err, IfOk, IfErr, refl, ap, ◌∙◌, subst}
use Rattle.std.specs.Prelude.{nat_le, if◌then◌else◌}
use Rattle.std.proofs.lemmas.List.{at_drop_more}
use Rattle.fs_kinds.specs.Limits.{most_depth}
use Rattle.fs_litmus_tokens.specs.Tokens.{Lined, kind_of, views}
use Rattle.fs_litmus_tokens.specs.Values.{Target, Value}
use Rattle.fs_litmus_tokens.specs.Sections.{StopsText}
use Rattle.fs_litmus_tokens.specs.declared.token.Token.{Token}
use Rattle.fs_litmus_tokens.specs.declared.values.Stop.{Stop}
use Rattle.fs_litmus_tokens.specs.declared.values.Stop.TheVariants.{Memory, At}
use Rattle.fs_litmus_syntax.specs.declared.condition.Condition as conditions
use Rattle.fs_litmus_syntax.specs.Grammar.{Syntax, IsCondition}
use Rattle.fs_litmus_syntax.specs.Meaning.{Condition, condition_of, written_depth, grouped_depth, depth_of}
use Rattle.fs_litmus_syntax.specs.Answer.{Means, StopsAt}
use Rattle.fs_litmus_syntax.specs.Machine.{State, atoms_at, next, went, read, start}
use Rattle.fs_litmus_syntax.specs.Limited.{Bounded, Deep, Fine, limited, bounded}
use Rattle.fs_litmus_syntax.specs.Views.{shallow, Is, Gives}
use Rattle.fs_litmus_syntax.proofs.Residual.{tree}
use Rattle.fs_litmus_syntax.proofs.ConditionReading.{Scan, Meets, answers}
use Rattle.fs_litmus_syntax.proofs.Limits.{result_bounded, read_start}
use Rattle.fs_litmus_syntax.proofs.Atoms.{HasAtoms, has_atoms}

-- one more token
pub reads_on : (ts : List Token) (i : ℕ) (s s' : State Bounded) (found : List (Target × Value)) (d : Token) → i < length ts → next limited s (kind_of (get_or ts i d).kind) ≡ Some s' → read limited s found (views (drop i ts)) ≡ read limited s' (found ++ atoms_at s.place (kind_of (get_or ts i d).kind)) (views (drop (i + 1) ts))
reads_on ts i s s' found d h e =
    at_drop_more (λ l. read limited s found (views l)) ts i d h
    ∙ ap (λ o. went limited o (λ s''. read limited s'' (found ++ atoms_at s.place (kind_of (get_or ts i d).kind)) (views (drop (i + 1) ts))) (views (get_or ts i d ∷ drop (i + 1) ts))) e

shallow_if : (b : Bool) (w g : ℕ) (c : Condition) → shallow (if b then Fine w g c else Deep) ≡ (if b then Some c else None)
shallow_if true w g c = refl
shallow_if false w g c = refl

means_what : (c : conditions.Condition) (s : Syntax) (found : List (Target × Value)) → HasAtoms (Ok (s, found)) → Is c (bounded s) found → Means c s
means_what c s found a g = record {
  atoms = g.atoms ∙ a;
  tree = g.tree ∙ shallow_if (nat_le (depth_of s) most_depth) (written_depth s) (grouped_depth (condition_of s)) (condition_of s);
}

means_from : (ts : List Lined) (r : Result conditions.Condition Stop) (q : Scan) → Meets IsCondition ts q → HasAtoms q → Gives r (result_bounded q) → IfOk r (λ c. (s : Syntax) × IsCondition ts s × Means c s)
means_from ts (Ok c) (Ok x) h a g = (x.0, h.0, means_what c x.0 x.1 a g)
means_from ts (Ok c) (Err rest) h a g = absurd g
means_from ts (Err e) q h a g = tt

pub means : (ts : List Lined) (r : Result conditions.Condition Stop) → Gives r (read limited start [] ts) → IfOk r (λ c. (s : Syntax) × IsCondition ts s × Means c s)
means ts r g = means_from ts r (read tree start [] ts) (answers ts) (has_atoms ts) (subst (Gives r) (read_start ts) g)

only_from : (ts : List Lined) (r : Result conditions.Condition Stop) (q : Scan) → Meets IsCondition ts q → HasAtoms q → Gives r (result_bounded q) → IfOk r (λ c. (s : Syntax) → IsCondition ts s → Means c s)
only_from ts (Ok c) (Ok x) h a g = λ d l. subst (Means c) (h.1 d l) (means_what c x.0 x.1 a g)
only_from ts (Ok c) (Err rest) h a g = absurd g
only_from ts (Err e) q h a g = tt

pub only : (ts : List Lined) (r : Result conditions.Condition Stop) → Gives r (read limited start [] ts) → IfOk r (λ c. (s : Syntax) → IsCondition ts s → Means c s)
only ts r g = only_from ts r (read tree start [] ts) (answers ts) (has_atoms ts) (subst (Gives r) (read_start ts) g)

stops_from : (ts : List Lined) (r : Result conditions.Condition Stop) (q : Scan) → Meets IsCondition ts q → Gives r (result_bounded q) → IfErr r (StopsAt ts)
stops_from ts (Ok c) q h g = tt
stops_from ts (Err Memory) q h g = tt
stops_from ts (Err (At rest)) (Ok x) h g = absurd (cc)
stops_from ts (Err (At rest)) (Err us) h g = let same : us ≡ views rest.now = cc in subst (StopsText IsCondition ts) same h

pub stops : (ts : List Lined) (r : Result conditions.Condition Stop) → Gives r (read limited start [] ts) → IfErr r (StopsAt ts)
stops ts r g = stops_from ts r (read tree start [] ts) (answers ts) (subst (Gives r) (read_start ts) g)
