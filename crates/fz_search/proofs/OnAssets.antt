-- Workers by the plans of several assets, and the book that one goes on with.
use Rattle.std.proofs.Common.{◌≡◌, ◌∙◌, ℕ, zero, suc, ◌+◌, ◌-◌, ◌*◌, ◌%◌, ◌≤◌, ◌<◌, ◌⊎◌, List, [], ◌∷◌, ◌++◌, length, Option, None, sym, ap, subst, arith, inl, false}
use Rattle.std.specs.Prelude.{slice_index_or}
use Rattle.std.proofs.Math.Nat.{add-mod_right}
use Rattle.std.proofs.lemmas.Nat.{mod-mul-add}
use Rattle.fz_spec.specs.Instance.{Instance}
use Rattle.fz_tree.specs.declared.mode.Mode.{Mode}
use Rattle.fz_tree.specs.Book.{BookLaw}
use Rattle.fz_cmd.specs.Meaning.{Options}
use Rattle.fz_runs.specs.Modes.{mode_for}
use Rattle.fz_path.specs.Paths.{Pathed, Walked, bare}
use Rattle.fz_printer.specs.declared.printer.Printer.{Printer}
use Rattle.fz_printer.specs.Printed.{as_found_of, book_of, printed_of, stopped_of, wanted_of, IsReady}
use Rattle.fz_printer.specs.Gathered.{IsFilled}
use Rattle.fz_solo.specs.Streamed.{Streams}
use Rattle.fz_search.specs.Searched.{IsPrinted, HasEnded, enough_for, asset_path, AreOfAssets}
use Rattle.fz_search.proofs.Searches.{begun_printed, filled_ended}

-- ---- one path more

each_push : {X : Type 0} (P : ℕ → X → Type 0) (l : List X) (a : X) → ((k : ℕ) (d : X) → k < length l → P k (slice_index_or l k d)) → P (length l) a → (k : ℕ) (d : X) → k < length (l ++ a ∷ []) → P k (slice_index_or (l ++ a ∷ []) k d)
each_push P [] a all p zero d h = p
each_push P [] a all p (suc k) d h = absurd (omega arith)
each_push P (x ∷ xs) a all p zero d h = all 0 d (omega arith)
each_push P (x ∷ xs) a all p (suc k) d h = each_push (λ i. P (suc i)) xs a (λ i e t. all (suc i) e (omega arith)) p k d (omega arith)

pub one_more : (m : Instance) (mode : Mode) (o : Options) (before after shown : List Walked) (p q : Walked) → after ≡ before ++ q ∷ [] → q ≡ p → shown ≡ before → bare p ≡ asset_path m mode o (length shown % o.assets) → AreOfAssets m mode o before → AreOfAssets m mode o after
one_more m mode o before after shown p q more same are is all =
    subst (AreOfAssets m mode o) (sym more)
    (each_push (λ (w : ℕ) (p : Walked). bare p ≡ asset_path m mode o (w % o.assets)) before q all (ap bare same ∙ is ∙ ap (λ (l : List Walked). asset_path m mode o (length l % o.assets)) are))

-- the first of an asset
pub is_first : (m : Instance) (mode : Mode) (o : Options) (w assets : ℕ) (p : Pathed) → assets ≡ o.assets → w < assets → p ≡ asset_path m mode o w → p ≡ asset_path m mode o (w % o.assets)
is_first m mode o w assets p are low is =
    let whole : w ≡ 0 * assets + w = omega arith in
    let own : w % assets ≡ w = ap (λ (k : ℕ). k % assets) whole ∙ mod-mul-add 0 assets w low in
    is ∙ ap (asset_path m mode o) (sym (ap (λ (k : ℕ). w % k) (sym are) ∙ own))

-- one beside another of its asset
pub is_next : (m : Instance) (mode : Mode) (o : Options) (w assets : ℕ) (p : Pathed) → assets ≡ o.assets → assets ≤ w → p ≡ asset_path m mode o ((w - assets) % o.assets) → p ≡ asset_path m mode o (w % o.assets)
is_next m mode o w assets p are high is =
    let whole : w - assets + assets ≡ w = omega (arith, high) in
    let back : (w - assets) % assets ≡ w % assets = sym (add-mod_right (w - assets) assets) ∙ ap (λ (k : ℕ). k % assets) whole in
    is ∙ ap (asset_path m mode o) (ap (λ (k : ℕ). (w - assets) % k) (sym are) ∙ back ∙ ap (λ (k : ℕ). w % k) are)

-- ---- what one worker makes of the book that it goes on with

pub printed_after : (m : Instance) (o : Options) (old p : Printer) (q r : Pathed) (w : Option ℕ) (before after : Option (List ℕ)) → Streams old q before p r after → (book_of old).model ≡ m → (book_of old).mode ≡ mode_for m.goal o → BookLaw (book_of p)
    → as_found_of old ≡ false → wanted_of old ≡ w → w ≡ enough_for m.goal o → printed_of old ≡ 0 → stopped_of old ≡ None
    → (stopped_of p ≡ None → IsReady p) → (stopped_of p ≡ None → IsFilled p ⊎ ((book_of p).parts ≡ [])) → IsPrinted m o p before after
printed_after m o old p q r w before after s model own law unfound wanted asked nothing none ready ended =
    let kept : wanted_of p ≡ enough_for m.goal o = s.keeps.wanted ∙ wanted ∙ asked in
    record {
      model = s.model ∙ model;
      mode = s.mode ∙ own;
      law = law;
      prints = inl (s.keeps.as_found ∙ unfound);
      printed = s.printed before (begun_printed old before none nothing);
      within = s.within;
      ready = ready;
      ended = λ n. subst (λ (x : Option ℕ). HasEnded x (book_of p)) kept (filled_ended (wanted_of p) (book_of p) (ended n));
    }
