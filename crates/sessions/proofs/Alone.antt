-- Commands of a session that no other sees, done one after another.
use Rattle.std.proofs.Common.{◌≡◌, ℕ, false, List, [], ◌∷◌, ◌++◌, refl, sym, ap, ◌∙◌, append_assoc}
use Rattle.std.proofs.lemmas.List.{append-nil}
use Rattle.std.proofs.lemmas.List.Elements.{All-append, All-cons, All-nil}
use Rattle.std.proofs.lemmas.List.Sums.{fold-append}
use Rattle.s57_types.specs.declared.cell.Cell.{Cell}
use Rattle.text_spec.specs.ScriptLines.{is_shared}
use Rattle.text_spec.specs.declared.command.Command.{Command}
use Rattle.history_spec.specs.Served.{Draft, draft_after, drafted, local_lines}
use Rattle.sessions.specs.SessionStates.{DoesAlone, SessionState, lines_beside}

abbrev IsAlone : Command → Type 0
IsAlone command = is_shared command ≡ false

-- one was done
pub one_alone : (base : ℕ) (cell : Cell) (old new : SessionState) (command : Command) → is_shared command ≡ false
    → new.done ≡ old.done ++ command ∷ [] → new.draft ≡ draft_after command old.draft
    → new.lines ≡ old.lines ++ local_lines cell base old.draft command → DoesAlone base cell old new
one_alone base cell old new command local done draft lines = record {
  commands = command ∷ [];
  alone = All-cons IsAlone command [] local (All-nil IsAlone);
  done = done;
  draft = draft;
  lines = lines ∙ ap (λ more. old.lines ++ more) (sym (append-nil (local_lines cell base old.draft command)));
}

both_lines : (cell : Cell) (base : ℕ) (draft : Draft) (first more : List Command)
    → lines_beside cell base draft (first ++ more) ≡ lines_beside cell base draft first ++ lines_beside cell base (drafted draft first) more
both_lines cell base draft [] more = refl
both_lines cell base draft (command ∷ first) more =
    ap (λ rest. local_lines cell base draft command ++ rest) (both_lines cell base (draft_after command draft) first more)
    ∙ sym (append_assoc (local_lines cell base draft command) (lines_beside cell base (draft_after command draft) first)
    (lines_beside cell base (drafted (draft_after command draft) first) more))

-- some were done, and then some more
pub more_alone : (base : ℕ) (cell : Cell) (old mid new : SessionState) → DoesAlone base cell old mid → DoesAlone base cell mid new
    → DoesAlone base cell old new
more_alone base cell old mid new first more = record {
  commands = first.commands ++ more.commands;
  alone = All-append IsAlone first.commands more.commands first.alone more.alone;
  done = more.done ∙ ap (λ done. done ++ more.commands) first.done ∙ append_assoc old.done first.commands more.commands;
  draft = more.draft ∙ ap (λ draft. drafted draft more.commands) first.draft
      ∙ sym (fold-append (λ draft command. draft_after command draft) old.draft first.commands more.commands);
  lines = more.lines ∙ (λ i. first.lines i ++ lines_beside cell base (first.draft i) more.commands)
      ∙ append_assoc old.lines (lines_beside cell base old.draft first.commands) (lines_beside cell base (drafted old.draft first.commands) more.commands)
      ∙ ap (λ rest. old.lines ++ rest) (sym (both_lines cell base old.draft first.commands more.commands));
}
