-- What the walk has found so far, end by end.
use Rattle.std.proofs.Common.{◌≡◌, ℕ, ◌+◌, Option, None, Some, List, [], ◌∷◌, ◌++◌, map, filter, length, refl, ap, sym, ◌∙◌, arith, append_assoc}
use Rattle.std.specs.Option.{option_or}
use Rattle.std.proofs.lemmas.List.{append-nil, map-append, length-append, length-map}
use Rattle.std.proofs.lemmas.List.Elements.{filter-append}
use Rattle.fs_model.specs.declared.test.Test.{Test}
use Rattle.fs_model.specs.declared.hart.Hart.{Hart}
use Rattle.fs_model.specs.declared.step.Step.{Step}
use Rattle.fs_model.specs.declared.step.Choice.{Choice}
use Rattle.fs_model.specs.Execution.{code_of}
use Rattle.fs_hart.specs.declared.walk.Walk.{Walk}
use Rattle.fs_hart.specs.Listing.{End, trace_at}
use Rattle.fs_hart.specs.inner.Walking.{Adds, after, first_astray, is_whole, whole_traces}
use Rattle.fs_hart.proofs.Ends.{Tried}

pub record Tries (t : Test) (hart : ℕ) (sets : List (List ℕ)) (h : Hart) (os : List (Option Choice)) (old new : Walk) : Type 0 where
  pub ends : List End
  pub tried : Tried (length t.locations) (code_of t hart) sets h os ends
  pub adds : Adds t hart ends old new

whole_append : (t : Test) (hart : ℕ) (xs ys : List End) → whole_traces t hart (xs ++ ys) ≡ whole_traces t hart xs ++ whole_traces t hart ys
whole_append t hart xs ys = ap (map (trace_at t hart)) (filter-append is_whole xs ys) ∙ map-append (trace_at t hart) (filter is_whole xs) (filter is_whole ys)

or_assoc : (a b c : Option ℕ) → option_or (option_or a b) c ≡ option_or a (option_or b c)
or_assoc None b c = refl
or_assoc (Some x) b c = refl

first_append : (xs ys : List End) → first_astray (xs ++ ys) ≡ option_or (first_astray xs) (first_astray ys)
first_append [] ys = refl
first_append (x ∷ xs) ys = ap (option_or x.astray) (first_append xs ys) ∙ sym (or_assoc x.astray (first_astray xs) (first_astray ys))

pub first_after : (path : List Step) (xs : List End) → first_astray (map (after path) xs) ≡ first_astray xs
first_after path [] = refl
first_after path (x ∷ xs) = ap (option_or x.astray) (first_after path xs)

abbrev end_of : List Step → Option ℕ → End
end_of steps astray = record { steps = steps; astray = astray }

pub after_after : (path ss : List Step) (xs : List End) → map (after path) (map (after ss) xs) ≡ map (after (path ++ ss)) xs
after_after path ss [] = refl
after_after path ss (x ∷ xs) =
    let steps : path ++ (ss ++ x.steps) ≡ (path ++ ss) ++ x.steps = sym (append_assoc path ss x.steps) in
    let rest = after_after path ss xs in
    let first : after path (after ss x) ≡ after (path ++ ss) x = ap (λ xs. end_of xs x.astray) steps in
    cc

or_none : (a : Option ℕ) → option_or a None ≡ a
or_none None = refl
or_none (Some x) = refl

pub adds_none : (t : Test) (hart : ℕ) (w : Walk) → Adds t hart [] w w
adds_none t hart w = record { path = refl; runs = sym (append-nil w.traces.items); number = omega arith; first = sym (or_none w.astray) }

-- a child's ends, by a path that is longer by its step
pub adds_more : (t : Test) (hart : ℕ) (ends subs : List End) (s : Step) (old mid pushed grown new : Walk)
    → Adds t hart ends old mid → pushed.path.items ≡ mid.path.items ++ s ∷ [] → pushed.traces.items ≡ mid.traces.items → pushed.ends ≡ mid.ends → pushed.astray ≡ mid.astray
    → Adds t hart subs pushed grown → new.path.items ≡ mid.path.items → new.traces.items ≡ grown.traces.items → new.ends ≡ grown.ends → new.astray ≡ grown.astray
    → Adds t hart (ends ++ map (after (s ∷ [])) subs) old new
adds_more t hart ends subs s old mid pushed grown new a p1 p2 p3 p4 b q1 q2 q3 q4 =
    let path = old.path.items in
    let there : pushed.path.items ≡ path ++ s ∷ [] = p1 ∙ ap (λ xs. xs ++ s ∷ []) a.path in
    let whole = whole_traces t hart in
    let joined : whole (map (after path) (ends ++ map (after (s ∷ [])) subs)) ≡ whole (map (after path) ends) ++ whole (map (after (path ++ s ∷ [])) subs)
    = ap whole (map-append (after path) ends (map (after (s ∷ [])) subs)) ∙ whole_append t hart (map (after path) ends) (map (after path) (map (after (s ∷ [])) subs)) ∙ ap (λ xs. whole (map (after path) ends) ++ whole xs) (after_after path (s ∷ []) subs) in
    record {
      path = q1 ∙ a.path;
      runs = q2 ∙ b.runs ∙ ap (λ xs. xs ++ whole (map (after pushed.path.items) subs)) (p2 ∙ a.runs) ∙ ap (λ xs. (old.traces.items ++ whole (map (after path) ends)) ++ whole (map (after xs) subs)) there
          ∙ append_assoc old.traces.items _ _ ∙ ap (λ xs. old.traces.items ++ xs) (sym joined);
      number = q3 ∙ b.number ∙ ap (λ k. k + length subs) (p3 ∙ a.number) ∙ (let e = length-append ends (map (after (s ∷ [])) subs) in let f = length-map subs (after (s ∷ [])) in omega arith);
      first = q4 ∙ b.first ∙ ap (λ o. option_or o (first_astray subs)) (p4 ∙ a.first) ∙ or_assoc old.astray (first_astray ends) (first_astray subs)
          ∙ ap (option_or old.astray) (sym (first_append ends (map (after (s ∷ [])) subs) ∙ ap (option_or (first_astray ends)) (first_after (s ∷ []) subs)));
    }
