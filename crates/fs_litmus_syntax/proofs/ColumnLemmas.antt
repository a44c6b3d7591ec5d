-- What the cells of a column say.
use Rattle.std.proofs.Common.{◌≡◌, ◌⊎◌, inl, inr, ℕ, ◌-◌, zero, suc, List, [], ◌∷◌, ◌++◌, drop, refl, sym, ap, ◌∙◌, subst, append_assoc, append-nil, length, Option, Some, None, arith}
use Rattle.std.proofs.lemmas.List.{drop-map}
use denote.Ref.{Bor}
use Rattle.fs_litmus_tokens.specs.Tokens.{Lined, views}
use Rattle.fs_litmus_tokens.specs.declared.token.Token.{Token}
use Rattle.fs_kinds.specs.declared.fault.Fault.{Fault}
use Rattle.fs_litmus_syntax.specs.Cells.{Item, IsCell, IsCellFault, AreCells, empty, next, AreFaulty, here, later, AddsCell, IsListing}
use Rattle.fs_kinds.specs.FaultOrder.{IsFirstOf, earliest}
use Rattle.fs_kinds.proofs.FirstFault.{first_join, only_first}
use Rattle.fs_litmus_syntax.specs.Columns.{column, cells_of}
use Rattle.fs_litmus_syntax.proofs.CellLemmas.{cell_only, cell_clean, fault_only}

pub column-drop : {A : Type 0} (columns number : ℕ) (xs : List A) → column columns number xs ≡ column columns 0 (drop number xs)
column-drop columns zero xs = refl
column-drop columns (suc n) [] = refl
column-drop columns (suc n) (x ∷ xs) = column-drop columns n xs

-- one cell more
pub cells_more : {cs : List (List Lined)} {xs ys : List Item} {c : List Lined} → AreCells cs xs → IsCell c ys → AreCells (cs ++ c ∷ []) (xs ++ ys)
cells_more {ys = ys} empty h = next h empty (sym (append-nil ys))
cells_more {ys = ys} (next {xs = xs} {ys = zs} k ks e) h = next k (cells_more ks h) (ap (λ l. l ++ ys) e ∙ append_assoc xs zs ys)

pub faulty_more : {c : List Lined} {f : Fault} (cs : List (List Lined)) → AreFaulty (cs ++ c ∷ []) f → AreFaulty cs f ⊎ IsCellFault c f
faulty_more [] (here h) = inr h
faulty_more [] (later h) = elim h [ ]
faulty_more (d ∷ cs) (here h) = inl (here h)
faulty_more (d ∷ cs) (later h) = elim (faulty_more cs h) [ inl k ↦ inl (later k) | inr k ↦ inr k ]

pub faulty_still : {cs : List (List Lined)} (ds : List (List Lined)) {f : Fault} → AreFaulty cs f → AreFaulty (cs ++ ds) f
faulty_still ds (here h) = here h
faulty_still ds (later h) = later (faulty_still ds h)

pub faulty_new : {c : List Lined} {f : Fault} (cs : List (List Lined)) → IsCellFault c f → AreFaulty (cs ++ c ∷ []) f
faulty_new [] h = here h
faulty_new (d ∷ cs) h = later (faulty_new cs h)

-- cells say one thing
pub cells_only : {cs : List (List Lined)} {xs ys : List Item} → AreCells cs xs → AreCells cs ys → xs ≡ ys
cells_only empty empty = refl
cells_only (next h hs e) (next k ks f) =
    let one = cell_only h k in
    let more = cells_only hs ks in
    cc (e, f, one, more)

pub cells_clean : {cs : List (List Lined)} {xs : List Item} {f : Fault} → AreCells cs xs → AreFaulty cs f → ⊥
cells_clean empty h = elim h [ ]
cells_clean (next h hs e) (here k) = cell_clean h k
cells_clean (next h hs e) (later k) = cells_clean hs k

-- ---- what the reader knows of the cells so far

-- what stands in these cells, unless one has a fault, and the first fault
pub record ColumnRead (seen : List (List Lined)) (xs : List Item) (o : Option Fault) : Type 0 where
  pub cells : o ≡ None → AreCells seen xs
  pub first : IsFirstOf (AreFaulty seen) o

pub none_read : (xs : List Item) → xs ≡ [] → ColumnRead [] xs None
none_read xs e = record { cells = λ same. subst (λ l. AreCells [] l) (sym e) empty; first = λ f h. elim h [ ] }

cell_first : (c : List Lined) (old new : List Item) (r : Option Fault) → AddsCell c old new r → IsFirstOf (IsCellFault c) r
cell_first c old new None h = λ f k. cell_clean h.is k
cell_first c old new (Some f) h = only_first (IsCellFault c) f h (λ g k. fault_only h k)

cells_if : (seen : List (List Lined)) (c : List Lined) (old new : List Item) (o r : Option Fault) → ColumnRead seen old o → AddsCell c old new r → earliest o r ≡ None → AreCells (seen ++ c ∷ []) new
cells_if seen c old new None None h a e = subst (λ l. AreCells (seen ++ c ∷ []) l) (sym a.new_is) (cells_more (h.cells refl) a.is)
cells_if seen c old new None (Some f) h a e = absurd (cc)
cells_if seen c old new (Some f) None h a e = absurd (cc)
cells_if seen c old new (Some f) (Some g) h a e = absurd (cc)

pub column_more : (seen : List (List Lined)) (c : List Lined) (old new : List Item) (o r : Option Fault) → ColumnRead seen old o → AddsCell c old new r → ColumnRead (seen ++ c ∷ []) new (earliest o r)
column_more seen c old new o r h a =
    record {
      cells = cells_if seen c old new o r h a;
      first = first_join (AreFaulty seen) (IsCellFault c) (AreFaulty (seen ++ c ∷ [])) (λ g k. faulty_still (c ∷ []) k) (λ g k. faulty_new seen k) (λ g k. faulty_more seen k) o r h.first (cell_first c old new r a);
    }

pub split_more : (columns : ℕ) (all seen : List (List Lined)) (rest : List (Bor (List Token))) (c : Bor (List Token)) (after : List (Bor (List Token))) → all ≡ seen ++ column columns 0 (cells_of rest) → rest ≡ c ∷ after → all ≡ (seen ++ views c.now ∷ []) ++ column columns 0 (cells_of (drop (columns - 1) after))
split_more columns all seen rest c after e f =
    e ∙ ap (λ l. seen ++ column columns 0 (cells_of l)) f
    ∙ ap (λ l. seen ++ views c.now ∷ l) (column-drop columns (columns - 1) (cells_of after) ∙ ap (λ l. column columns 0 l) (drop-map (λ x. views x.now) (columns - 1) after))
    ∙ sym (append_assoc seen (views c.now ∷ []) (column columns 0 (cells_of (drop (columns - 1) after))))

listing_is : (cells : List (List Lined)) (xs : List Item) (o : Option Fault) → ColumnRead cells xs o → IsListing cells xs o
listing_is cells xs None h = h.cells refl
listing_is cells xs (Some f) h = h.first

no_cells : (columns : ℕ) (rest : List (Bor (List Token))) → length rest ≡ 0 → column columns 0 (cells_of rest) ≡ []
no_cells columns [] e = refl
no_cells columns (c ∷ rest) e = absurd (omega arith)

pub column_end : (columns : ℕ) (all seen : List (List Lined)) (rest : List (Bor (List Token))) (xs : List Item) (o : Option Fault) → all ≡ seen ++ column columns 0 (cells_of rest) → length rest ≡ 0 → ColumnRead seen xs o → IsListing all xs o
column_end columns all seen rest xs o e f h =
    let same : all ≡ seen = e ∙ ap (λ l. seen ++ l) (no_cells columns rest f) ∙ append-nil seen in
    subst (λ l. IsListing l xs o) (sym same) (listing_is seen xs o h)
