-- Words of sites, cut behind the site's name and the `=`.
use Rattle.std.proofs.Common.{◌≡◌, ◌≢◌, ℕ, ◌+◌, ◌<◌, List, [], ◌∷◌, ◌++◌, drop, map, get_or, length, Option, Some, None, IfSome, IfNone, MatchOption, ap, sym, ◌∙◌, arith, append_assoc}
use Rattle.std.proofs.lemmas.List.{append_cancel_left, get_or-map}
use Rattle.std.specs.Str.Pattern.{FindsTextPrefix}
use denote.Ref.{Bor}
use Rattle.fs_kinds.specs.declared.kind.Kind.{Kind}
use Rattle.fs_kinds.specs.declared.slot.Slot.{Slot}
use Rattle.fs_kinds.specs.Kind.{word}
use Rattle.fs_app_sites.specs.Sites.{key}
use Rattle.fs_app_sites.specs.Sited.{number_at, site_word, word_of}

-- what `strip_prefix` gives of a text
pub strip_prefix_text : (p bs : List ℕ) (r : Option (Bor (List ℕ)))
    → MatchOption r (FindsTextPrefix p bs None) (λ x. (n : ℕ) × FindsTextPrefix p bs (Some n) × (x.now ≡ drop n bs) × (length x.now + n ≡ length bs))
    → MatchOption r ((rest : List ℕ) → bs ≢ p ++ rest) (λ x. bs ≡ p ++ x.now)
strip_prefix_text p bs None h = h
strip_prefix_text p bs (Some x) h = h.1.1 ∙ ap (λ rest. p ++ rest) (sym h.2)

parts : (name : List ℕ) (kind : Kind) → site_word name kind ≡ name ++ (61 ∷ word kind)
parts name kind = append_assoc name (61 ∷ []) (word kind)

module _ (name w rest : List ℕ) (begins : w ≡ name ++ rest) where
  -- a word that begins with the site's name
  pub joined : (tail : List ℕ) (kind : Kind) → rest ≡ 61 ∷ tail → tail ≡ word kind → w ≡ site_word name kind
  joined tail kind e f = begins ∙ ap (λ r. name ++ r) (e ∙ ap (λ t. 61 ∷ t) f) ∙ sym (parts name kind)

  pub behind : (kind : Kind) → w ≡ site_word name kind → rest ≡ 61 ∷ word kind
  behind kind e = append_cancel_left name rest (61 ∷ word kind) (sym begins ∙ e ∙ parts name kind)

pub unbegun : (name w : List ℕ) → ((rest : List ℕ) → w ≢ name ++ rest) → (kind : Kind) → w ≢ site_word name kind
unbegun name w never kind e = never (61 ∷ word kind) (e ∙ parts name kind)

-- what is said of the kind behind the name and the `=`
module _ (name w rest tail : List ℕ) (begins : w ≡ name ++ rest) (there : rest ≡ 61 ∷ tail) where
  pub known : (r : Option Kind) → IfSome r (λ kind. tail ≡ word kind) → IfSome r (λ kind. w ≡ site_word name kind)
  known None is = tt
  known (Some kind) is = joined name w rest begins tail kind there is

  pub unknown : (r : Option Kind) → IfNone r ((kind : Kind) → tail ≢ word kind) → IfNone r ((kind : Kind) → w ≢ site_word name kind)
  unknown None never = λ kind e.
      let same : 61 ∷ tail ≡ 61 ∷ word kind = sym there ∙ behind name w rest begins kind e in
      never kind (cc)
  unknown (Some kind) never = tt

pub number_at-key : (n : ℕ) → number_at (key n) ≡ n
number_at-key n = omega arith

-- the site of this number among these
module _ {S : Type 0} (f : S → List ℕ) (names : List S) (n : ℕ) (name : S) (low : n < length names) (is : name ≡ get_or names n name) where
  there : get_or (map f names) n [] ≡ f name
  there = get_or-map f names n name [] low ∙ ap f (sym is)

  pub of-site : (w : List ℕ) (k : Slot) (kind : Kind) → w ≡ site_word (f name) kind → k ≡ key n → w ≡ word_of (map f names) (k, kind)
  of-site w k kind said at =
      let number : number_at k ≡ n = ap number_at at ∙ number_at-key n in
      said ∙ ap (λ bs. site_word bs kind) (sym (ap (λ m. get_or (map f names) m []) number ∙ there))

  pub not-here : (w : List ℕ) → ((kind : Kind) → w ≢ site_word (f name) kind) → (kind : Kind) → w ≢ site_word (get_or (map f names) n []) kind
  not-here w never kind e = never kind (e ∙ ap (λ bs. site_word bs kind) there)
