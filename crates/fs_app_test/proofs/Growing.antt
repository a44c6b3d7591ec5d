-- A row more in the map.
use Rattle.std.proofs.Common.{◌≡◌, ◌∙◌, ap, sym, subst, ℕ, ◌+◌, ◌<◌, Bool, cond, List, [], ◌∷◌, ◌++◌, get_or, length, take, Option, None, Some}
use Rattle.std.specs.BTreeMap.{BTreeMap, Updates, get}
use Rattle.std.specs.Map.{lookup}
use Rattle.std.specs.Ordering.{is_eq}
use Rattle.std.specs.Str.{bytes_eq}
use Rattle.std.proofs.lemmas.List.{take_more}
use Rattle.std.proofs.lemmas.List.Sums.{fold-append}
use Rattle.std.proofs.lemmas.Map.Text.{is_eq-slice_cmp}
use Rattle.fs_app_test.specs.declared.said.Kind.{Kind}
use Rattle.fs_app_test.specs.Rows.{Key, AreKinds, order}
use Rattle.fs_app_test.specs.declared.rows.Row.{Row}

pub kinds_none : (kinds : BTreeMap Key Kind) → kinds.entries ≡ [] → AreKinds kinds []
kinds_none kinds empty name = ap (lookup (λ key. is_eq (order name key))) empty

kinds_more : (m n : BTreeMap Key Kind) (rows : List Row) (row : Row) → AreKinds m rows → Updates order m n row.name (Some row.kind)
    → AreKinds n (rows ++ row ∷ [])
kinds_more m n rows row are updates q =
    updates.0 q
    ∙ ap (λ (b : Bool). cond b (Some row.kind) (get order m q)) (is_eq-slice_cmp row.name.now q.now)
    ∙ ap (cond (bytes_eq row.name.now q.now) (Some row.kind)) (are q)
    ∙ sym (fold-append (λ (found : Option Kind) (r : Row). cond (bytes_eq r.name.now q.now) (Some r.kind) found) None rows (row ∷ []))

pub kinds_next : (m n : BTreeMap Key Kind) (rows : List Row) (i : ℕ) (d : Row) → i < length rows → AreKinds m (take i rows)
    → Updates order m n (get_or rows i d).name (Some (get_or rows i d).kind) → AreKinds n (take (i + 1) rows)
kinds_next m n rows i d low are updates =
    subst (AreKinds n) (sym (take_more rows i d low)) (kinds_more m n (take i rows) (get_or rows i d) are updates)
