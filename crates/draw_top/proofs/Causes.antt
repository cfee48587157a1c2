-- What the answers of steps tell of the call that they are part of.
use Rattle.std.proofs.Common.{◌≡◌, ◌⊎◌, inl, inr, ℕ, ◌<◌, ◌≤◌, Bool, true, false, cond, List, length, nat_lt, Vec, Option, None, Some, Result, Ok, Err}
use Rattle.std.proofs.Common.{Global, refl, sym, ap, subst, ◌∙◌}
use Rattle.std.specs.Prelude.{IfErr, IfOk, IfSome, IsSomeAnd}
use Rattle.std.proofs.lemmas.Bool.{le-ltb, lt-ltb}
use Rattle.cell_findings.specs.Rows.{findings_of_rows}
use Rattle.cell_picture.specs.Picture.{picture}
use Rattle.enc_outside.specs.Count.{Rose}
use Rattle.enc_outside.specs.Files.{Files, Told}
use Rattle.file_spec.specs.DecodedCell.{decoded_cell}
use Rattle.rule_spec.specs.Findings.{all_findings, finding_total}
use Rattle.s57_types.specs.declared.cell.Cell.{Cell}
use Rattle.s57_types.specs.declared.fault.CellFault.{CellFault}
use Rattle.whole_files.specs.Input.{CountsReads, IsInputCause}
use Rattle.whole_files.specs.Output.{Adds, AddsFront}
use Rattle.whole_files.specs.declared.input.InputRefusal.{InputRefusal}
use Rattle.whole_files.specs.declared.input.InputRefusal.TheVariants as input
use Rattle.draw_top.specs.Drawing.{CountsFaults, IsAnswer, IsAsked, IsCause, IsPicture, drawn_bytes, drawn_file, drawn_if, ending_of, finding_limit}
use Rattle.draw_top.specs.declared.ending.Ending.{Ending}
use Rattle.draw_top.specs.declared.ending.Ending.TheVariants.{Done, Usage, Absent, BadCell, ReadFault, WriteFault, TooLarge, NoMemory, TooManyFindings}

-- the endings that bytes may ask for
abbrev IsOfBytes : Ending → Type 0
IsOfBytes (BadCell fault) = Unit {0}
IsOfBytes TooManyFindings = Unit {0}
IsOfBytes other = ⊥

abbrev IsDrawn : Result (List ℕ) Ending → Type 0
IsDrawn (Ok text) = Unit {0}
IsDrawn (Err ending) = IsOfBytes ending

is_drawn : (r : Result Cell CellFault) → IsDrawn (drawn_if r)
is_drawn (Err fault) = tt
is_drawn (Ok c) = by (nat_lt finding_limit (finding_total c))
  where
    by : (many : Bool) → IsDrawn (cond many (Err TooManyFindings) (Ok (picture c (findings_of_rows (all_findings c)))))
    by true = tt
    by false = tt

of_bytes : (bytes : List ℕ) (ending : Ending) → drawn_bytes bytes ≡ Err ending → IsOfBytes ending
of_bytes bytes ending is = subst IsDrawn is (is_drawn (decoded_cell bytes))

-- the picture of a file within the limit is that of its bytes
within_limit : (content : List ℕ) → length content ≤ 16777216 → drawn_file (Some content) ≡ drawn_bytes content
within_limit content fits = ap (λ large. cond large (Err TooLarge) (drawn_bytes content)) (le-ltb 16777216 (length content) fits)

over_limit : (file : Option (List ℕ)) → IsSomeAnd file (λ content. 16777216 < length content) → drawn_file file ≡ Err TooLarge
over_limit None large = absurd large
over_limit (Some content) large = ap (λ over. cond over (Err TooLarge) (drawn_bytes content)) (lt-ltb 16777216 (length content) large)

asked : (name : List ℕ) (files : Option Files) (content : List ℕ) (ending : Ending) → length content ≤ 16777216
    → IfSome files (λ fs. fs name ≡ Some content) → drawn_bytes content ≡ Err ending → IsAsked name files ending
asked name None content ending fits told is = tt
asked name (Some fs) content ending fits told is = ap drawn_file told ∙ within_limit content fits ∙ is

-- bytes that were read and drawn
pub answer_of_bytes : (name : List ℕ) (files : Option Files) (before after : ℕ) (content : List ℕ) (result : Result (Vec ℕ Global) Ending)
    → length content ≤ 16777216 → IfSome files (λ fs. fs name ≡ Some content) → IfOk result (λ text. drawn_bytes content ≡ Ok text.items)
    → IfErr result (λ ending. (drawn_bytes content ≡ Err ending) ⊎ (ending ≡ NoMemory)) → IsAnswer name files before after result
answer_of_bytes name files before after content (Ok text) fits told ok err = record {
  content = content;
  drawn = within_limit content fits ∙ ok;
  told = told;
}
answer_of_bytes name files before after content (Err ending) fits told ok err = by ending err
  where
    by : (e : Ending) → (drawn_bytes content ≡ Err e) ⊎ (e ≡ NoMemory) → IsAnswer name files before after (Err e)
    by e (inr none) = subst (λ other. IsAnswer name files before after (Err other)) (sym none) tt
    by Done (inl is) = of_bytes content Done is
    by Usage (inl is) = of_bytes content Usage is
    by WriteFault (inl is) = of_bytes content WriteFault is
    by ReadFault (inl is) = absurd (of_bytes content ReadFault is)
    by NoMemory (inl is) = tt
    by Absent (inl is) = asked name files content Absent fits told is
    by (BadCell fault) (inl is) = asked name files content (BadCell fault) fits told is
    by TooLarge (inl is) = asked name files content TooLarge fits told is
    by TooManyFindings (inl is) = asked name files content TooManyFindings fits told is

-- a file that wasn't read
pub answer_of_refusal : (name : List ℕ) (files : Option Files) (before after : ℕ) (refusal : InputRefusal)
    → IfSome files (λ fs. IsInputCause 16777216 (fs name) before after refusal) → CountsReads before after refusal
    → IsAnswer name files before after (Err (ending_of refusal))
answer_of_refusal name None before after input.Absent told untold = tt
answer_of_refusal name (Some fs) before after input.Absent told untold = ap drawn_file told
answer_of_refusal name files before after input.ReadFault told untold = untold
answer_of_refusal name None before after input.TooLarge told untold = tt
answer_of_refusal name (Some fs) before after input.TooLarge told untold = over_limit (fs name) told
answer_of_refusal name files before after input.NoMemory told untold = tt

-- an ending at which nothing was put
pub cause_of_refusal : (name : List ℕ) (files : Option Files) (before after : ℕ) (written : Option (List ℕ)) (faults : ℕ) (ending : Ending)
    → IsAnswer name files before after (Err ending) → IsCause name files before after written written faults faults ending
cause_of_refusal name files before after written faults Done answer = absurd answer
cause_of_refusal name files before after written faults Usage answer = answer
cause_of_refusal name files before after written faults WriteFault answer = absurd answer
cause_of_refusal name files before after written faults ReadFault answer = (refl, answer)
cause_of_refusal name files before after written faults NoMemory answer = refl
cause_of_refusal name files before after written faults Absent answer = (refl, answer)
cause_of_refusal name files before after written faults (BadCell fault) answer = (refl, answer)
cause_of_refusal name files before after written faults TooLarge answer = (refl, answer)
cause_of_refusal name files before after written faults TooManyFindings answer = (refl, answer)

-- a picture that was put
pub cause_of_put : (name : List ℕ) (files : Option Files) (before after : ℕ) (text : List ℕ) (old new : Option (List ℕ)) (put_before put_after : ℕ)
    (ending : Ending) → IsPicture name files text → (ending ≡ Done → Told (Adds text) old new)
    → (ending ≡ WriteFault → Told (AddsFront text) old new × Rose put_before put_after) → (ending ≡ Done) ⊎ (ending ≡ WriteFault)
    → IsCause name files before after old new put_before put_after ending
cause_of_put name files before after text old new put_before put_after ending is done fault (inl e) =
    subst (IsCause name files before after old new put_before put_after) (sym e) (record { text = text; put = done e; is = is })
cause_of_put name files before after text old new put_before put_after ending is done fault (inr e) =
    subst (IsCause name files before after old new put_before put_after) (sym e) (record { text = text; put = (fault e).0; is = is }, (fault e).1)

-- no refusal is one of words
pub no_usage : (name : List ℕ) (files : Option Files) (before after : ℕ) (ending : Ending) → IsAnswer name files before after (Err ending)
    → ending ≡ Usage → ⊥
no_usage name files before after ending answer is = subst (λ e. IsAnswer name files before after (Err e)) is answer

-- ---- which counts of failed calls rose
pub counts_of_bytes : (before after puts : ℕ) (content : List ℕ) (result : Result (Vec ℕ Global) Ending) → after ≡ before
    → IfErr result (λ ending. (drawn_bytes content ≡ Err ending) ⊎ (ending ≡ NoMemory)) → IfErr result (CountsFaults before after puts puts)
counts_of_bytes before after puts content (Ok text) same err = tt
counts_of_bytes before after puts content (Err ending) same err = by ending err
  where
    by : (e : Ending) → (drawn_bytes content ≡ Err e) ⊎ (e ≡ NoMemory) → CountsFaults before after puts puts e
    by e (inr none) = subst (CountsFaults before after puts puts) (sym none) (same, refl)
    by ReadFault (inl is) = absurd (of_bytes content ReadFault is)
    by WriteFault (inl is) = absurd (of_bytes content WriteFault is)
    by Done (inl is) = (same, refl)
    by Usage (inl is) = (same, refl)
    by Absent (inl is) = (same, refl)
    by (BadCell fault) (inl is) = (same, refl)
    by TooLarge (inl is) = (same, refl)
    by NoMemory (inl is) = (same, refl)
    by TooManyFindings (inl is) = (same, refl)

pub counts_of_refusal : (before after puts : ℕ) (refusal : InputRefusal) → CountsReads before after refusal
    → CountsFaults before after puts puts (ending_of refusal)
counts_of_refusal before after puts input.ReadFault counted = (counted, refl)
counts_of_refusal before after puts input.Absent counted = (counted, refl)
counts_of_refusal before after puts input.TooLarge counted = (counted, refl)
counts_of_refusal before after puts input.NoMemory counted = (counted, refl)

pub counts_of_put : (reads reads_now puts puts_now : ℕ) (Put : Type 0) (ending : Ending) → reads_now ≡ reads → (ending ≡ Done → puts_now ≡ puts)
    → (ending ≡ WriteFault → Put × Rose puts puts_now) → (ending ≡ Done) ⊎ (ending ≡ WriteFault)
    → CountsFaults reads reads_now puts puts_now ending
counts_of_put reads reads_now puts puts_now Put ending same done fault (inl e) =
    subst (CountsFaults reads reads_now puts puts_now) (sym e) (same, done e)
counts_of_put reads reads_now puts puts_now Put ending same done fault (inr e) =
    subst (CountsFaults reads reads_now puts puts_now) (sym e) (same, (fault e).1)
