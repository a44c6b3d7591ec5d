-- What is printed as the fenced test is the fenced test.
use Rattle.std.proofs.Common.{◌≡◌, ℕ, List, Ok, refl, subst, sym, ◌∙◌}
use Rattle.fs_kinds.specs.declared.placement.Entry.{Entry}
use Rattle.fs_model.specs.declared.test.Test.{Test}
use Rattle.fs_model.specs.Fenced.{fenced}
use Rattle.fs_model.specs.Printed.{printed}
use Rattle.fs_model.specs.Test.{IsSame, IsTest}
use Rattle.fs_litmus.specs.Fence.{IsShort}
use Rattle.fs_litmus.specs.Reads.{Reads}
use Rattle.fs_litmus.proofs.FencedPrintable.{fenced_printable}
use Rattle.fs_litmus.proofs.Fencing.{read_back}
use Rattle.fs_litmus.proofs.PrintedReads.{printable, reads}
use Rattle.fs_litmus.proofs.ReadsOnce.{reads_once}
use Rattle.fs_litmus.proofs.ReadsTest.{is_test}
use Rattle.fs_app_file_text.specs.Inserted.{IsInserted, ReadsFenced, ReadsOnlyFenced, ReadsShortFenced, of_file, of_printed}

printed_reads : (t : Test) → IsTest t → Reads (printed t) t
printed_reads t h = reads t (printable t h) h.bounded.lengths

-- what reads as a test that is printed as the fenced test is
pub from_print : (t made : Test) (p : List Entry) (bytes shown : List ℕ) → IsTest t → shown ≡ printed (fenced t p) → Reads bytes made → shown ≡ printed made
    → ReadsFenced t p bytes
from_print t made p bytes shown h e is shown_so =
    record {
      made = made;
      reads = is;
      same = read_back t p shown (Ok made) h e (subst (λ b. Reads b made) (sym shown_so) (printed_reads made (is_test bytes made is)));
    }

same : (t : Test) → IsSame t t
same t = record { name = refl; codes = refl; starts = refl; locations = refl; quantifier = refl; condition = refl }

printed_fenced : (t : Test) (p : List Entry) (shown : List ℕ) → IsTest t → shown ≡ printed (fenced t p) → IsShort (fenced t p) → ReadsFenced t p shown
printed_fenced t p shown h e short =
    record {
      made = fenced t p;
      reads = subst (λ b. Reads b (fenced t p)) (sym e) (reads (fenced t p) (fenced_printable t p h) short);
      same = same (fenced t p);
    }

joined : (t u v : Test) → IsSame t u → IsSame u v → IsSame t v
joined t u v h k =
    record {
      name = h.name ∙ k.name;
      codes = h.codes ∙ k.codes;
      starts = h.starts ∙ k.starts;
      locations = h.locations ∙ k.locations;
      quantifier = h.quantifier ∙ k.quantifier;
      condition = h.condition ∙ k.condition;
    }

-- what is made reads as no other test
pub only_fenced : (file : List ℕ) (t : Test) (p : List Entry) (text : List ℕ) → Reads file t → IsInserted file t p text → ReadsOnlyFenced t p text
only_fenced file t p text h (of_file added r) u k = joined u r.made (fenced t p) (reads_once text u r.made k r.reads) r.same
only_fenced file t p text h (of_printed e) u k = read_back t p text (Ok u) (is_test file t h) e k

-- and as the fenced test, where that is within the limits
pub reads_short : (file : List ℕ) (t : Test) (p : List Entry) (text : List ℕ) → Reads file t → IsInserted file t p text → ReadsShortFenced t p text
reads_short file t p text h (of_file added r) short = r
reads_short file t p text h (of_printed e) short = printed_fenced t p text (is_test file t h) e short
