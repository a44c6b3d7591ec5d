-- What a test keeps with the FENCEs that count, and without FENCEs.
use Rattle.std.proofs.Common.{◌≡◌, ap, map, refl, List}
use Rattle.fs_instr.specs.declared.instr.Instr.{Instr}
use Rattle.fs_model.specs.declared.test.Test.{Test}
use Rattle.fs_model.specs.Test.{IsBounded, IsSame}
use Rattle.fs_model_laws.specs.InPlace.{emptied, emptied_code}
use Rattle.fs_app_audit.specs.Unfenced.{eased_code, unfenced, unfenced_code}
use Rattle.fs_app_audit.specs.Audit.{asked, bare}
use Rattle.fs_app_audit.specs.declared.asked.Purpose.{Purpose}
use Rattle.fs_app_audit.specs.declared.asked.Purpose.TheVariants.{Advise, Write}
use Rattle.fs_app_audit.proofs.Bare.{bounded_eased, bounded_unfenced}

pub bounded_asked : (p : Purpose) (t : Test) → IsBounded t → IsBounded (asked p t)
bounded_asked Advise t h = h
bounded_asked Write t h = bounded_eased t h

pub bounded_bare : (p : Purpose) (t : Test) → IsBounded t → IsBounded (bare p t)
bounded_bare Advise t h = bounded_eased (unfenced t) (bounded_unfenced t h)
bounded_bare Write t h = bounded_unfenced t h

pub starts_bare : (p : Purpose) (t : Test) → (bare p t).starts ≡ t.starts
starts_bare Advise t = refl
starts_bare Write t = refl

-- tests that are the same have the same codes with the FENCEs that count, and are the same without FENCEs
pub codes_asked : (p : Purpose) (t u : Test) → IsSame t u → (asked p t).codes ≡ (asked p u).codes
codes_asked Advise t u h = h.codes
codes_asked Write t u h = ap (map eased_code) h.codes

mapped_same : (f : List Instr → List Instr) (t u : Test) → IsSame t u → IsSame (record t { codes = map f t.codes }) (record u { codes = map f u.codes })
mapped_same f t u h = record {
  name = h.name;
  codes = ap (map f) h.codes;
  starts = h.starts;
  locations = h.locations;
  quantifier = h.quantifier;
  condition = h.condition;
}

pub same_bare : (p : Purpose) (t u : Test) → IsSame t u → IsSame (bare p t) (bare p u)
same_bare Advise t u h = mapped_same eased_code (unfenced t) (unfenced u) (mapped_same unfenced_code t u h)
same_bare Write t u h = mapped_same unfenced_code t u h

pub same_emptied : (t u : Test) → IsSame t u → IsSame (emptied t) (emptied u)
same_emptied t u h = mapped_same emptied_code t u h
