-- From an answer that was found to what is printed of it, and to its certificate.
use Rattle.std.proofs.Common.{◌≡◌, ℕ, Option, None, Some, MatchOption, List, Result, false, IfOk, refl, sym, ap, subst, ◌∙◌, inl, inr}
use Rattle.fs_kinds.specs.declared.fault.Fault.{Fault}
use Rattle.fs_kinds.specs.declared.placement.Entry.{Entry}
use Rattle.fs_kinds.specs.Placement.{all_with}
use Rattle.fs_kinds.specs.PriceTable.{PriceTable, IsPriceTable}
use Rattle.fs_model.specs.declared.test.Test.{Test}
use Rattle.fs_model.specs.Test.{IsBounded, IsTest}
use Rattle.fs_model.specs.Slots.{slots}
use Rattle.fs_model.specs.Allows.{RefutesAll}
use Rattle.fs_model.specs.Execution.{Execution}
use Rattle.fs_model.specs.Witness.{Witness}
use Rattle.fs_cert_evidence.specs.Certificate as said
use Rattle.fs_cert_evidence.specs.CertificateFile.{CanBeSaid, IsCertificateFile}
use Rattle.fs_cert_evidence.specs.Texts.{certificate_text}
use Rattle.serde_json.specs.Written.{has_float}
use Rattle.fs_report.specs.Objects.{AreOneAnswer, SayOneAnswer, json_line}
use Rattle.fs_report.proofs.Values.{fenced_whole, none_whole}
use Rattle.fs_cert_json.specs.declared.certificate.Certificate.{Certificate}
use Rattle.fs_cert_json.specs.Kept.{AreInRange, KeepsCertificate}
use Rattle.fs_app_io.specs.declared.status.Status.{Status}
use Rattle.fs_cert_evidence.specs.Sizes.{HasNoRunFault}
use Rattle.fs_cert_evidence.specs.Evidence.{Refuted, Shown, IsWitnessFor, ShowsForbidden, placement_in}
use Rattle.fs_pool_workers.specs.Answers.{Answer, Solved, IsAnswer, IsAtLimit, IsBoardOf, Rests, placement_of}
use Rattle.fs_pool_workers.specs.Forms as answer
use Rattle.fs_cert.specs.Certified.{Certifies, CertifiesNone}
use Rattle.fs_app_solve_and_check.specs.Solve.{IsCertified, IsWitnessed, IsSolved, PrintsAnswer, PrintsPlaced}
use Rattle.fs_app_solve_and_check.specs.Found.{IsAskedBy, IsFound, IsFoundFor, Prints, lines_of, value_of}
use Rattle.fs_app_solve_and_check.specs.inner.Made.{CertifiesAnswer, HasWitness, SaysAnswer}
use Rattle.fs_litmus.specs.Reads.{Reads}
use Rattle.fs_app_place_and_order.specs.Place.{ArePricesOf}
use Rattle.fs_board_offers.specs.Questions.{Question, HasTop, IsAtSlots}
use Rattle.fs_board_offers.specs.Offers.{Offers, offers_of}
use Rattle.fs_board_offers.specs.Valid.{IsValid}
use Rattle.fs_board_offers.proofs.Priced.{has-top, same-slots}
use Rattle.fs_board_search.specs.Priced.{IsPricedAnswer, question_of}
use Rattle.fs_board_search.proofs.PricedAnswers.{priced-answer}

-- what was answered to a copy of the question
pub found-for : (q asked given : Question) (limit : ℕ) (s : Solved) → asked ≡ q → given ≡ asked → IsAtSlots given → IsBounded q.test
    → HasNoRunFault given.test → IsAnswer given.test given.offers s.answer → Rests given limit s → IsFoundFor q limit asked s
found-for q asked given limit s same copied over bounded listed is rests =
    subst (λ (x : Question). IsFoundFor q limit x s) copied (record {
      question = copied ∙ same;
      at_slots = over;
      bounded = subst (λ (x : Question). IsBounded x.test) (sym (copied ∙ same)) bounded;
      listed = listed;
      answer = is;
      rests = rests;
    })

-- the offers that prices make for the test that the bytes read as
pub asked-by : (bytes prices : List ℕ) (t : Test) (table : PriceTable) (q : Question) → q ≡ question_of t table → Reads bytes t
    → ArePricesOf prices table → IsTest t → IsPriceTable table → IsAskedBy bytes prices q
asked-by bytes prices t table q same reads priced is_test is_table =
    subst (IsAskedBy bytes prices) (sym same) (record {
      table = table;
      reads = reads;
      priced = priced;
      is_test = is_test;
      is_table = is_table;
      asked_is = refl;
    })

-- they have rw,rw at each slot
pub top-asked : (test prices : List ℕ) (asked given : Question) → IsAskedBy test prices asked → given ≡ asked → HasTop given.offers
top-asked test prices asked given by copied =
    subst (λ (x : Question). HasTop x.offers) (sym (copied ∙ by.asked_is)) (has-top asked.test by.table by.is_table)

-- they are for the slots of the test
pub slots-asked : (test prices : List ℕ) (asked given : Question) → IsAskedBy test prices asked → given ≡ asked → IsAtSlots given
slots-asked test prices asked given by copied =
    subst IsAtSlots (sym (copied ∙ by.asked_is)) (record { slots = same-slots asked.test by.table })

-- what was answered to a copy of the question that the bytes ask
pub found-asked : (test prices : List ℕ) (asked given : Question) (limit : ℕ) (s : Solved) → IsAskedBy test prices asked → given ≡ asked
    → HasNoRunFault given.test → IsAnswer given.test given.offers s.answer → Rests given limit s → IsFound test prices limit asked s
found-asked test prices asked given limit s by copied listed is rests = record {
  the_test = asked.test;
  table = by.table;
  reads = by.reads;
  priced = by.priced;
  found = found-for (question_of asked.test by.table) asked given limit s by.asked_is copied
      (slots-asked test prices asked given by copied) by.is_test.bounded listed is rests;
}

-- the answer that was found, in the words of prices
answer-found : (limit : ℕ) (asked : Question) (s : Solved) (t : Test) (prices : PriceTable) → IsFoundFor (question_of t prices) limit asked s
    → IsPricedAnswer t prices s.answer
answer-found limit asked s t prices found = priced-answer t prices asked s.answer found.question found.answer

-- what is printed with this placement is the answer in print
printed : (t : Test) (prices : PriceTable) (placed : Option (List Entry)) (text : List ℕ) (status : Status)
    → PrintsPlaced t prices placed text status → PrintsAnswer t prices text status
printed t prices (Some p) text status is = inl (record { placement = p; cheapest = is.0; shown = is.1; ends = is.2 })
printed t prices None text status is = inr is

say-one : (a : Answer) → SayOneAnswer (lines_of a) (value_of a)
say-one (answer.Fenced f n) = inl (n, placement_in f, refl, refl)
say-one (answer.None w) = inr (w.witness, refl, refl)

-- an answer in lines and as JSON
pub one-answer : (a : Answer) (object : List ℕ) → object ≡ json_line (value_of a) → AreOneAnswer (lines_of a) object
one-answer a object printed = (value_of a, say-one a, printed)

-- no object of an answer has a float
pub whole-value : (a : Answer) → has_float (value_of a) ≡ false
whole-value (answer.Fenced f n) = fenced_whole n (placement_in f)
whole-value (answer.None w) = none_whole w.witness

witnessed : (a : Answer) (witnesses : List Witness) (text : List ℕ) → HasWitness a witnesses → text ≡ lines_of a → IsWitnessed (placement_of a) witnesses text
witnessed (answer.Fenced f n) witnesses text has prints = tt
witnessed (answer.None w) witnesses text has prints = (w.witness, has, prints)

module _ (test prices : List ℕ) (limit : ℕ) (asked : Question) (s : Solved) (text : List ℕ) (status : Status) where
  pub is-solved : IsFound test prices limit asked s → Prints s.answer text status → IsSolved test prices text status
  is-solved is prints = let found = is.found in record {
    the_test = is.the_test;
    table = is.table;
    reads = is.reads;
    priced = is.priced;
    listed = subst (λ (x : Question). HasNoRunFault x.test) found.question found.listed;
    answer = printed is.the_test is.table (placement_of s.answer) text status
        (prints is.the_test is.table (answer-found limit asked s is.the_test is.table found));
  }

  pub is-certified : (other : Question) (bytes : List ℕ) → other ≡ asked → IsFound test prices limit asked s → Prints s.answer text status
      → text ≡ lines_of s.answer
      → ((table : PriceTable) → other.offers ≡ offers_of other.test table → SaysAnswer other.test table s.answer bytes)
      → IsCertified test prices text status bytes
  is-certified other bytes same is prints witness says =
      let found = is.found in
      let asked_is : other ≡ question_of is.the_test is.table = same ∙ found.question in
      let there = subst (λ (t : Test). SaysAnswer t is.table s.answer bytes) (ap (λ (x : Question). x.test) asked_is)
      (says is.table (subst (λ (x : Question). x.offers ≡ offers_of x.test is.table) (sym asked_is) refl)) in record {
        the_test = is.the_test;
        table = is.table;
        reads = is.reads;
        priced = is.priced;
        listed = subst (λ (x : Question). HasNoRunFault x.test) found.question found.listed;
        placed = placement_of s.answer;
        answer = prints is.the_test is.table (answer-found limit asked s is.the_test is.table found);
        certified = there.certified;
        witnessed = witnessed s.answer there.certified.certificate.witnesses text there.witnesses witness;
      }

pub found-there : (test prices : List ℕ) (limit : ℕ) (asked other : Question) (s : Solved) → other ≡ asked → IsFound test prices limit asked s
    → (q : Question) × (n : ℕ) × IsFoundFor q n other s
found-there test prices limit asked other s same is = (
  question_of is.the_test is.table,
  limit,
  subst (λ (x : Question). IsFoundFor (question_of is.the_test is.table) limit x s) (sym same) is.found,
)

-- ---- certificates

pub witness-certifies : (t : Test) (offers : Offers) (a : Answer) (w : Shown) (made : Certificate) → a ≡ answer.None w → IsAnswer t offers a
    → HasNoRunFault t
    → ((t : Test) (offers : Offers) (e : Execution) → HasNoRunFault t → IsWitnessFor t w e → RefutesAll t e → CertifiesNone t offers w.witness made)
    → CertifiesAnswer t offers a made
witness-certifies t offers a w made is holds listed certified =
    let shown = subst (IsAnswer t offers) is holds in
    subst (λ (x : Answer). CertifiesAnswer t offers x made) (sym is) (certified t offers shown.0 listed shown.1 shown.2)

pub fenced-certifies : (t : Test) (offers : Offers) (a : Answer) (f : _) (n : ℕ) (p : List Entry) (r : Result Certificate Fault)
    → a ≡ answer.Fenced f n → p ≡ placement_in f → IfOk r (Certifies t offers (Some p)) → IfOk r (CertifiesAnswer t offers a)
fenced-certifies t offers a f n p r is placed certified =
    subst (λ (x : Answer). IfOk r (CertifiesAnswer t offers x)) (sym is) (subst (λ (q : List Entry). IfOk r (Certifies t offers (Some q))) placed certified)

-- an answer that is a placement has what shows that it forbids the outcome
pub fenced-cycles : (t : Test) (offers : Offers) (a : Answer) (f : _) (n : ℕ) (x : Refuted) → a ≡ answer.Fenced f n → x ≡ f.value → IsAnswer t offers a
    → ShowsForbidden t x
fenced-cycles t offers a f n x is same holds =
    subst (ShowsForbidden t) (sym same) (subst (IsAnswer t offers) is holds).2

pub board-there : (asked : Question) (limit : ℕ) (s : Solved) (b : _) → Some b ≡ s.board → Rests asked limit s → IsBoardOf asked limit s.answer b
board-there asked limit s b is h = subst (λ o. MatchOption o (IsAtLimit asked limit s.answer) (IsBoardOf asked limit s.answer)) (sym is) h

-- an answer that is a placement and has no board is no fence at all
pub least-there : (asked : Question) (limit : ℕ) (s : Solved) (p : List Entry) → None ≡ s.board → placement_of s.answer ≡ Some p → Rests asked limit s
    → p ≡ all_with None (slots asked.test)
least-there asked limit s p is placed h =
    let there : IsAtLimit asked limit s.answer = subst (λ o. MatchOption o (IsAtLimit asked limit s.answer) (IsBoardOf asked limit s.answer)) (sym is) h in
    elim there.ends [
      | inl none ↦ let e : Some p ≡ None = sym placed ∙ none in absurd (cc)
      | inr least ↦ let e : Some p ≡ Some (all_with None (slots asked.test)) = sym placed ∙ least in cc
    ]

pub certificate-said : (t : Test) (offers : Offers) (a : Answer) (made : Certificate) (bytes : List ℕ)
    → CertifiesAnswer t offers a made
    → ((c : said.Certificate) → KeepsCertificate made c → AreInRange c → bytes ≡ certificate_text c)
    → ((c : said.Certificate) → KeepsCertificate made c → AreInRange c → CanBeSaid c → IsCertificateFile bytes c)
    → (prices : PriceTable) → offers ≡ offers_of t prices → SaysAnswer t prices a bytes
certificate-said t offers (answer.Fenced f n) made bytes certifies written says prices are = record {
  certified = record {
    certificate = certifies.certificate;
    file = says certifies.certificate certifies.keeps certifies.in_range certifies.sayable;
    written = written certifies.certificate certifies.keeps certifies.in_range;
    version = certifies.version;
    valid = subst (λ (x : Offers). IsValid t x certifies.certificate (Some (placement_in f))) are certifies.valid;
    judged = certifies.judged;
    least = certifies.least;
  };
  witnesses = tt;
}
certificate-said t offers (answer.None w) made bytes certifies written says prices are = let by = certifies.certifies in record {
  certified = record {
    certificate = by.certificate;
    file = says by.certificate by.keeps by.in_range by.sayable;
    written = written by.certificate by.keeps by.in_range;
    version = by.version;
    valid = subst (λ (x : Offers). IsValid t x by.certificate None) are by.valid;
    judged = by.judged;
    least = by.least;
  };
  witnesses = certifies.only;
}
