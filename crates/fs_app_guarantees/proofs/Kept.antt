-- A statement on tests that stays true where a condition is replaced by one that says the same carries over to the same
-- tests.
use Rattle.std.proofs.Common.{◌≡◌, ◌↔◌, List, [], ◌∷◌, ap, sym, subst, ◌∙◌}
use Rattle.std.specs.Prelude.{All}
use Rattle.std.specs.List.{AllZip, slice_index_or}
use Rattle.fs_model.specs.Condition.{condition_of}
use Rattle.fs_model.specs.declared.test.Test.{Test}
use Rattle.fs_model.specs.Test.{IsSame}

-- the test u with the condition of t
abbrev pub with_condition_of : Test → Test → Test
with_condition_of t u = record u { condition = t.condition }

-- where P is true of u, it is true of u with the condition of v, if that says the same
abbrev pub Keeps : (Test → Type 0) → Type 0
Keeps P = (u v : Test) → condition_of v.condition ≡ condition_of u.condition → P u → P (with_condition_of v u)

-- and then the other way round too
pub back :
    (P : Test → Type 0) → Keeps P → (u v : Test) → condition_of v.condition ≡ condition_of u.condition → P (with_condition_of v u) → P u
back P keeps u v e h = keeps (with_condition_of v u) u (sym e) h

pub same_whole : (t u : Test) → IsSame t u → t ≡ with_condition_of t u
same_whole t u s =
    ap (λ x. record t { name = x }) s.name
    ∙ ap (λ x. record t { name = u.name; codes = x }) s.codes
    ∙ ap (λ x. record t { name = u.name; codes = u.codes; starts = x }) s.starts
    ∙ ap (λ x. record u { starts = u.starts; locations = x; quantifier = t.quantifier; condition = t.condition }) s.locations
    ∙ ap (λ x. record u { quantifier = x; condition = t.condition }) s.quantifier

pub carried : (P : Test → Type 0) → Keeps P → (t u : Test) → IsSame t u → P t ↔ P u
carried P keeps t u s = (
  λ h. back P keeps u t s.condition (subst P (same_whole t u s) h),
  λ h. subst P (sym (same_whole t u s)) (keeps u t s.condition h),
)

-- ---- what holds of all elements

pub each : {X : Type 0} (P Q : X → Type 0) → ((x : X) → P x → Q x) → (xs : List X) → All P xs → All Q xs
each P Q f xs all k d below = f (slice_index_or xs k d) (all k d below)

pub pairwise :
    {X Y : Type 0} (R S : X → Y → Type 0) → ((x : X) (y : Y) → R x y → S x y) → (xs : List X) (ys : List Y) → AllZip R xs ys → AllZip S xs ys
pairwise R S f [] [] h = h
pairwise R S f [] (y ∷ ys) h = h
pairwise R S f (x ∷ xs) [] h = h
pairwise R S f (x ∷ xs) (y ∷ ys) h = (f x y h.0, pairwise R S f xs ys h.1)
