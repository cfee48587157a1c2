-- One more key of a subject that is looked at: what is known of all pairs after it.
use Rattle.std.proofs.Common.{◌≡◌, ◌&&◌, ◌||◌, ℕ, ◌+◌, ◌<◌, Bool, true, false, not, List, length, get_or, take, sym, ap, ◌∙◌}
use Rattle.std.proofs.lemmas.List.Folds.{list_any_more}
use Rattle.cell_spec.specs.declared.key.Key.{Key}
use Rattle.cell_spec.specs.declared.key.Subject.{Subject}
use Rattle.cell_spec.specs.Names.{same_key, same_subject}
use Rattle.depend_map.specs.Readers.{holds_key, same_pair}
use Rattle.depend_map.proofs.Pairs.{either_key, one_key, one_put, one_stays, one_taken, one_there}

-- what is known while lost keys are taken: of a pair that was there, whether it still is
abbrev pub still : Subject → List Key → List Key → Key → Subject → Bool → Bool
still subject old new k s was = not (same_subject subject s && (holds_key old k && not (holds_key new k))) && was

-- what is known while gained keys are put
abbrev pub now : Subject → List Key → Key → Subject → Bool → Bool
now subject keys k s was = (same_subject subject s && holds_key keys k) || was

module _ (subject : Subject) (keys : List Key) (i : ℕ) (d : Key) (k : Key) (s : Subject) (was before after : Bool) (lt : i < length keys) where
  abbrev j : Key
  j = get_or keys i d

  one_more : holds_key (take (i + 1) keys) k ≡ (holds_key (take i keys) k || same_key k j)
  one_more = list_any_more (same_key k) keys i d lt

  turned : same_pair j subject k s ≡ (same_key k j && same_subject subject s)
  turned = ap (λ b. b && same_subject subject s) (either_key j k)

  -- the key isn't among the new ones, and is taken
  pub taken : (new : List Key) → holds_key new j ≡ false → before ≡ still subject (take i keys) new k s was
      → after ≡ (not (same_pair j subject k s) && before)
      → after ≡ still subject (take (i + 1) keys) new k s was
  taken new out known is =
      is ∙ (λ x. not (turned x) && known x)
      ∙ one_taken (same_subject subject s) (same_key k j) (holds_key (take i keys) k) (holds_key new k) was (λ e. ap (holds_key new) (one_key k j e) ∙ out)
      ∙ ap (λ b. not (same_subject subject s && (b && not (holds_key new k))) && was) (sym one_more)

  -- the key is among the new ones
  pub stays : (new : List Key) → holds_key new j ≡ true → before ≡ still subject (take i keys) new k s was
      → before ≡ still subject (take (i + 1) keys) new k s was
  stays new among known =
      known
      ∙ one_stays (same_subject subject s) (same_key k j) (holds_key (take i keys) k) (holds_key new k) was (λ e. ap (holds_key new) (one_key k j e) ∙ among)
      ∙ ap (λ b. not (same_subject subject s && (b && not (holds_key new k))) && was) (sym one_more)

  -- the key is put
  pub put : before ≡ now subject (take i keys) k s was → after ≡ (same_pair j subject k s || before) → after ≡ now subject (take (i + 1) keys) k s was
  put known is =
      is ∙ (λ x. turned x || known x)
      ∙ one_put (same_subject subject s) (same_key k j) (holds_key (take i keys) k) was
      ∙ ap (λ b. (same_subject subject s && b) || was) (sym one_more)

  -- the key is there
  pub there : before ≡ now subject (take i keys) k s was → (same_key k j ≡ true → same_subject subject s ≡ true → before ≡ true)
      → before ≡ now subject (take (i + 1) keys) k s was
  there known has =
      known
      ∙ one_there (same_subject subject s) (same_key k j) (holds_key (take i keys) k) was (λ e f. sym known ∙ has e f)
      ∙ ap (λ b. (same_subject subject s && b) || was) (sym one_more)
