-- Messages, one after the other.
use Rattle.std.proofs.Common.{◌≡◌, ◌++◌, List, ℕ, sym, subst, append_assoc}
use Rattle.fs_kinds.specs.declared.fault.Fault.{Fault}
use Rattle.fs_app_error_messages.specs.Explained.{IsMessage}
use Rattle.fs_app_error_messages.specs.Faults.{IsNext, AreMessages, last, more}
use Rattle.fs_app_error_messages.specs.inner.Turns.{Adds, LeadsTo}

pub finished : (name bytes left text new : List ℕ) (f g : Fault) → LeadsTo name bytes f left g text → Adds (IsMessage name left g) text new → AreMessages name bytes f new
finished name bytes left text new f g leads a = subst (AreMessages name bytes f) (sym a.new_is) (leads a.added (last a.is))

pub further : (name bytes left next text new : List ℕ) (f g h : Fault) → LeadsTo name bytes f left g text → Adds (IsMessage name left g) text new → IsNext left next h → LeadsTo name bytes f next h new
further name bytes left next text new f g h leads a n rest are =
    let e : text ++ (a.added ++ rest) ≡ new ++ rest = rw (a.new_is, append_assoc) in
    subst (AreMessages name bytes f) e (leads (a.added ++ rest) (more a.is n are))
