-- Stacks of regions.
use Rattle.std.proofs.Common.{◌≡◌, ◌<◌, List, [], ◌∷◌, ◌++◌, length, refl, sym, ◌∙◌, ap, arith}
use Rattle.std.proofs.lemmas.List.{append_assoc, append-nil, map-append, reverse-append}
use Rattle.fs_cert_evidence.specs.Regions.{Region}
use Rattle.fs_region_refutation.specs.declared.region.Region.{Region as CodeRegion}
use Rattle.fs_region_refutation.specs.Views.{region_of, regions_of}
use Rattle.fs_region_refutation.specs.inner.Stacks.{stacked}

pub stacked_push : (stack : List CodeRegion) (region : CodeRegion) → stacked (stack ++ region ∷ []) ≡ region_of region ∷ stacked stack
stacked_push stack region = ap regions_of (reverse-append stack (region ∷ []))

-- a stack of these alone
pub stacked_all : (all none stack : List CodeRegion) → none ≡ [] → stacked stack ≡ regions_of all ++ stacked none
    → stacked stack ≡ regions_of all
stacked_all all none stack empty is =
    is ∙ ap (λ below. regions_of all ++ stacked below) empty ∙ append-nil (regions_of all)

pub moved : (left rest stack more : List CodeRegion) (region : CodeRegion) → left ≡ rest ++ region ∷ [] → more ≡ stack ++ region ∷ []
    → regions_of rest ++ stacked more ≡ regions_of left ++ stacked stack
moved left rest stack more region from to =
    ap (λ all. regions_of rest ++ all) (ap stacked to ∙ stacked_push stack region)
    ∙ sym (append_assoc (regions_of rest) (region_of region ∷ []) (stacked stack))
    ∙ ap (λ all. all ++ stacked stack) (sym (ap regions_of from ∙ map-append region_of rest (region ∷ [])))

pub record IsFirst (regions : List Region) : Type 0 where
  pub region : Region
  pub others : List Region
  pub is : regions ≡ region ∷ others

pub first_of : (regions : List Region) → 0 < length regions → IsFirst regions
first_of [] low = absurd (omega (arith, low))
first_of (region ∷ others) low = record { region = region; others = others; is = refl }
