-- A return to a committed version, from any sound store with an update open: done, it leaves a sound store, still open, that shows at the
-- open version that version's settings, and older versions as they were; stopped, by 12 or 13 and nothing else, it leaves what an abandon
-- leaves.
-- Assumes nothing.
use Prim.Native.Nat.{ℕ, suc, ◌≤◌, ◌<◌}
use native.Mathlib.Omega.{arith}
use mathlib.Core.Bool.{Bool, true, false, not}
use mathlib.Core.Option.{Option, none}
use mathlib.Core.Path.{◌≡◌, refl, ap, ap₂, sym, ◌∙◌, subst}
use mathlib.Core.Logic.{◌≢◌}
use mathlib.Core.List.{List, [], ◌∷◌, map}
use lib.Dec.{T, ltb}
use borrow.Author.Tests.{lt-leb, ltb-true}
use Rattle.model.specs.Basic.{those, pick}
use Rattle.model.specs.declared.Pair.{Pair}
use Rattle.model.specs.declared.Delta.{Delta}
use Rattle.model.specs.Entry.{pair, enter_pair}
use Rattle.model.specs.Page.{Change}
use Rattle.model.specs.Store.{Store, next, last, last_of}
use Rattle.model.specs.Walk.{key_limit, find, lookup, settings}
use Rattle.model.specs.Sound.{sound}
use Rattle.model.specs.Climb.{Result, done, refused, update}
use Rattle.model.specs.Calls.{is_some, rule, numbered, first_of, beyond, raw_insert, delete, abandoned}
use Rattle.model.specs.Differ.{added, differ}
use Rattle.model.specs.Return.{goes, comes, end_one, set_one, Ran, reached, stopped, or_stopped, through, and_on, carried, Came, gave}
use Rattle.model.specs.Return.{gave_up, lacking, or_abandoned, return_tests, unless, returned}
use Rattle.model.specs.ByRule.{Readable, Committed, Sound}
use Rattle.model.specs.Remade
use Rattle.model.specs.Remade.{small, ended, asked}
use Rattle.model.proofs.lists.Lists.{both_true}
use Rattle.model.proofs.lists.Members.{true-holds}
use Rattle.model.proofs.tree.Local.{applied}
use Rattle.model.proofs.sound.ByRule.{kept_of, old-current, to-tests}
use Rattle.model.proofs.tree.Edit.{insert-same, delete-same}
use Rattle.model.proofs.older.Undo.{Undone}
use Rattle.model.proofs.tree.UpdateChanges.{Changed}
use Rattle.model.proofs.sound.Ready.{raw-undone, raw-changes, delete-undone, delete-changes}
use Rattle.model.proofs.reading.Lookups.{lookup-is, settings-rise}
use Rattle.model.proofs.kept.Preserve.{Sounds, raw-keeps, delete-keeps}
use Rattle.model.proofs.reading.Alike.{Alike, alike_self, alike-trans, alike-settings}
use Rattle.model.proofs.sound.Small.{settings-small}
use Rattle.model.proofs.kept.Stops.{is-lacking, Ends, update-ends}
use Rattle.model.proofs.turning.Remade.{Way, the-way}

module _ (least : ℕ) where
  -- steps at the open version have made t of s, and the open version shows us
  pub record Stepped (s t : Store) (us : List Pair) : Type 0 where
    pub is-sound : Sound least t
    pub opened : t.opened ≡ true
    pub current : t.current ≡ s.current
    pub oldest : t.oldest ≡ s.oldest
    pub openly : settings t (next t) ≡ us
    pub steady : (v : ℕ) → s.oldest ≤ v → v ≤ s.current → Alike s v t v
    pub undone : abandoned t ≡ abandoned s

  abbrev pub Steps : Store → List Pair → Result → Type 0
  Steps s us (done t) = Stepped s t us
  Steps s us (refused n) = lacking n ≡ true

  abbrev pub Runs : Store → List Pair → Ran → Type 0
  Runs s us (reached t) = Stepped s t us
  Runs s us (stopped n t) = (lacking n ≡ true) × (abandoned t ≡ abandoned s)

  stepped-on : (s t u : Store) (us vs : List Pair) → Stepped s t us → Stepped t u vs → Stepped s u vs
  stepped-on s t u us vs a b = record {
    is-sound = b.is-sound;
    opened = b.opened;
    current = b.current ∙ a.current;
    oldest = b.oldest ∙ a.oldest;
    openly = b.openly;
    steady = λ v g h. alike-trans s v t v u v (a.steady v g h) (b.steady v (omega (arith, a.oldest)) (omega (arith, a.current)));
    undone = b.undone ∙ a.undone;
  }

  pub runs_on : (s t : Store) (us vs : List Pair) (q : Ran) → Stepped s t us → Runs t vs q → Runs s vs q
  runs_on s t us vs (reached u) a b = stepped-on s t u us vs a b
  runs_on s t us vs (stopped n u) a b = (b.0, b.1 ∙ a.undone)

  -- ---- one step

  due : (n : ℕ) (p q r : Bool) (u : Result) → p ≡ false → q ≡ false → r ≡ false → numbered (rule 5 p ∷ rule 7 q ∷ rule n r ∷ []) u ≡ u
  due n p q r u a b c = rw (a, b, c) refl

  module _ (four : 4 ≤ least) (s : Store) (d : Sound least s) (o : s.opened ≡ true) where
    last-is : last s ≡ next s
    last-is = ap (λ (b : Bool). last_of b s.current) o

    sure : T (sound least s)
    sure = true-holds (sound least s) (to-tests least s d)

    here : (k : ℕ) → k < key_limit → lookup s k (next s) ≡ find k (settings s (next s))
    here k low = lookup-is least (omega arith) s d k (next s) low (omega (arith, last-is, old-current least s d.old-low))

    one : (c : Change) (us : List Pair) → applied c (settings s (next s)) ≡ us → (r : Result) → Sounds least four s d o r → Changed s c r
        → Undone s r → Ends r → Steps s us r
    one c us e (refused n) f g h l = is-lacking n l
    one c us e (done t) f g h l = record {
      is-sound = f.sound-now;
      opened = f.opened ∙ o;
      current = f.current;
      oldest = f.oldest;
      openly = ap (λ (n : ℕ). settings t (suc n)) f.current ∙ g ∙ e;
      steady = λ v y z. f.steady v y (omega arith);
      undone = h;
    }

    -- a delete of a key that is there is the update; so is an insert of one that is not, bench keys too
    pub delete-is : (k : ℕ) → k < key_limit → is_some (find k (settings s (next s))) ≡ true
        → delete least s k ≡ update least s k (record { drop = k ∷ []; take = [] })
    unfolding delete
    delete-is k low z = due 11 _ _ _ _ (lt-leb key_limit k low) (ap not o) (ap (λ (q : Option ℕ). not (is_some q)) (here k low) ∙ ap not z)

    pub set_is : (x : Delta) → x.key < key_limit → find x.key (settings s (next s)) ≡ none
        → set_one least s x ≡ raw_insert least s x.key x.new
    unfolding set_one
    set_is x low z = due 10 _ _ _ _ (lt-leb key_limit x.key low) (ap not o) (ap is_some (here x.key low ∙ z))

    pub end_step : (x : Delta) → small (pair x.key x.old) ≡ true → is_some (find x.key (settings s (next s))) ≡ true
        → Steps s (ended x (settings s (next s))) (end_one least s x)
    end_step x f z =
        let k : ℕ = x.key in
        let low : k < key_limit = ltb-true k key_limit (both_true (ltb k key_limit) _ f).0 in
        one (record { drop = k ∷ []; take = [] }) (ended x (settings s (next s))) (delete-same k (settings s (next s))) (delete least s k)
        (delete-keeps least four s d o k) (delete-changes least (omega arith) s sure k) (delete-undone least (omega arith) s sure k)
        (subst Ends (sym (delete-is k low z)) (update-ends least s k (record { drop = k ∷ []; take = [] })))

    pub set-step : (x : Delta) → small (asked x) ≡ true → find x.key (settings s (next s)) ≡ none
        → Steps s (enter_pair (asked x) (settings s (next s))) (set_one least s x)
    set-step x f z =
        let k : ℕ = x.key in
        let (a, b) = both_true (ltb k key_limit) (ltb x.new 4294967296) f in
        let low : k < key_limit = ltb-true k key_limit a in
        let absent : lookup s k (next s) ≡ none = here k low ∙ z in
        subst (Steps s (enter_pair (asked x) (settings s (next s)))) (sym (set_is x low z))
        (one (record { drop = []; take = asked x ∷ [] }) (enter_pair (asked x) (settings s (next s)))
        (insert-same k x.new (settings s (next s))) (raw_insert least s k x.new)
        (raw-keeps least four s d o k x.new low absent (ltb-true x.new 4294967296 b))
        (raw-changes least (omega arith) s sure o k x.new low absent) (raw-undone least (omega arith) s sure o k x.new low)
        (update-ends least s k (record { drop = []; take = asked x ∷ [] })))

    itself : (us : List Pair) → settings s (next s) ≡ us → Stepped s s us
    itself us e =
        record { is-sound = d; opened = o; current = refl; oldest = refl; openly = e; steady = λ v g h. alike_self s v; undone = refl }

  -- ---- steps one after another

  go_on_lem : (go : Store → Ran) (s : Store) (us vs : List Pair) (u : Result) → Steps s us u → ((t : Store) → Stepped s t us → Runs t vs (go t))
      → Runs s vs (or_stopped go s u)
  go_on_lem go s us vs (refused n) l f = (l, refl)
  go_on_lem go s us vs (done t) a f = runs_on s t us vs (go t) a (f t a)

  pub ends-run : 4 ≤ least → (ds : List Delta) (s : Store) → Sound least s → s.opened ≡ true → (vs : List Pair)
      → Remade.Ends small (settings s (next s)) ds vs → Runs s vs (through (end_one least) ds s)
  unfolding through
  ends-run four [] s d o vs e = itself four s d o vs e
  ends-run four (x ∷ ds) s d o vs (f, z, r) =
      go_on_lem (through (end_one least) ds) s (ended x (settings s (next s))) vs (end_one least s x) (end_step four s d o x f z)
      (λ t g. ends-run four ds t g.is-sound g.opened vs (subst (λ (us : List Pair). Remade.Ends small us ds vs) (sym g.openly) r))

  pub sets-run : 4 ≤ least → (ds : List Delta) (s : Store) → Sound least s → s.opened ≡ true → (vs : List Pair)
      → Remade.Sets small (settings s (next s)) ds vs → Runs s vs (through (set_one least) ds s)
  unfolding through
  sets-run four [] s d o vs e = itself four s d o vs e
  sets-run four (x ∷ ds) s d o vs (f, z, r) =
      go_on_lem (through (set_one least) ds) s (enter_pair (asked x) (settings s (next s))) vs (set_one least s x) (set-step four s d o x f z)
      (λ t g. sets-run four ds t g.is-sound g.opened vs (subst (λ (us : List Pair). Remade.Sets small us ds vs) (sym g.openly) r))

  -- an insert asks for a key and a value alone
  told-anew : (ds : List Delta) (t : Store) → through (set_one least) ds t ≡ through (set_one least) (map added (map asked ds)) t
  unfolding through set_one
  told-anew [] t = refl
  told-anew (x ∷ ds) t = at (set_one least t x) (λ w. told-anew ds w)
    where
      at : (u : Result) → ((w : Store) → through (set_one least) ds w ≡ through (set_one least) (map added (map asked ds)) w)
          → or_stopped (through (set_one least) ds) t u ≡ or_stopped (through (set_one least) (map added (map asked ds))) t u
      at (done w) f = f w
      at (refused n) f = refl

  -- ---- both runs, from the settings that the open version shows to others

  pub way-runs : 4 ≤ least → (s : Store) → Sound least s → s.opened ≡ true → (us vs : List Pair) (ds : List Delta)
      → settings s (next s) ≡ us → Way small us vs ds → Runs s vs (carried least ds s)
  unfolding carried
  way-runs four s d o us vs ds e w =
      second (through (end_one least) (those goes ds) s)
      (ends-run four (those goes ds) s d o w.mid
      (subst (λ (zs : List Pair). Remade.Ends small zs (those goes ds) w.mid) (sym e) w.ends))
    where
      second : (q : Ran) → Runs s w.mid q → Runs s vs (and_on (through (set_one least) (those comes ds)) q)
      second (stopped n t) r = r
      second (reached t) r =
          runs_on s t w.mid vs (through (set_one least) (those comes ds) t) r
          (sets-run four (those comes ds) t r.is-sound r.opened vs
          (subst (λ (zs : List Pair). Remade.Sets small zs (those comes ds) vs) (sym r.openly) w.sets))

  -- ---- a return

  module _ (four : 4 ≤ least) (s : Store) (d : Sound least s) (o : s.opened ≡ true) (v : ℕ) (h : Committed s v) where
    abbrev now : List Pair
    now = settings s (next s)

    abbrev then : List Pair
    then = settings s v

    open-last : last s ≡ next s
    open-last = ap (λ (b : Bool). last_of b s.current) o

    open-readable : Readable s (next s)
    open-readable = omega (arith, open-last, old-current least s d.old-low)

    kept-readable : Readable s v
    kept-readable = omega (arith, open-last, h.from, h.upto)

    pub way : Way small (settings s (next s)) (settings s v) (differ (settings s (next s)) (settings s v))
    way =
        the-way small now then (settings-small least (omega arith) s d (next s) open-readable)
        (settings-small least (omega arith) s d v kept-readable)
        (settings-rise least (omega arith) s d (next s) open-readable) (settings-rise least (omega arith) s d v kept-readable)

    first_run : Runs s way.mid (through (end_one least) (those goes (differ now then)) s)
    first_run = ends-run four (those goes (differ now then)) s d o way.mid way.ends

    pub carried-runs : Runs s (settings s v) (carried least (differ (settings s (next s)) (settings s v)) s)
    carried-runs = way-runs four s d o now then (differ now then) refl way

    -- ---- what comes, told anew after the deletes: as code does that has no list

    abbrev anew : Store → Ran
    anew t = through (set_one least) (those comes (differ (settings t (next t)) (settings t v))) t

    pub carried-anew : carried least (differ (settings s (next s)) (settings s v)) s
        ≡ and_on (λ (t : Store). through (set_one least) (those comes (differ (settings t (next t)) (settings t v))) t)
        (through (end_one least) (those goes (differ (settings s (next s)) (settings s v))) s)
    unfolding carried
    carried-anew = at (through (end_one least) (those goes (differ now then)) s) first_run
      where
        at : (q : Ran) → Runs s way.mid q → and_on (through (set_one least) (those comes (differ now then))) q ≡ and_on anew q
        at (stopped n t) r = refl
        at (reached t) r =
            let e : settings t v ≡ then = alike-settings s v t v (r.steady v h.from h.upto) in
            let same : map asked (those comes (differ (settings t (next t)) (settings t v))) ≡ map asked (those comes (differ now then))
            = ap₂ (λ (us ws : List Pair). map asked (those comes (differ us ws))) r.openly e ∙ way.anew in
            told-anew (those comes (differ now then)) t ∙ ap (λ (ps : List Pair). through (set_one least) (map added ps) t) (sym same)
            ∙ sym (told-anew (those comes (differ (settings t (next t)) (settings t v))) t)

  -- What a return comes to: refused by its tests; done; or the abandon.
  pub returned-by : (P : Came → Type 0) → 4 ≤ least → (s : Store) → Sound least s → (v : ℕ)
      → (first_of (return_tests s.oldest s.current s.opened v) ≢ 0
      → P (gave (refused (first_of (return_tests s.oldest s.current s.opened v)))))
      → (s.opened ≡ true → Committed s v → (t : Store) → Stepped s t (settings s v) → P (gave (done t)))
      → (s.opened ≡ true → Committed s v → (n : ℕ) → lacking n ≡ true → P (gave_up n (abandoned s)))
      → P (returned least s v)
  unfolding returned
  returned-by P four s d v tests whole up = at (beyond s.current s.oldest v) refl s.opened refl tests
    where
      run : Ran
      run = carried least (differ (settings s (next s)) (settings s v)) s

      by : (q : Ran) → s.opened ≡ true → Committed s v → Runs s (settings s v) q → P (or_abandoned q)
      by (reached t) o h r = whole o h t r
      by (stopped n t) o h r =
          subst (λ (b : Bool). P (pick b (gave_up n (abandoned t)) (gave (refused n)))) (sym r.0)
          (subst (λ (u : Store). P (gave_up n u)) (sym r.1) (up o h n r.0))

      at : (x : Bool) → beyond s.current s.oldest v ≡ x → (y : Bool) → s.opened ≡ y
          → (first_of (rule 6 x ∷ rule 7 (not y) ∷ []) ≢ 0 → P (gave (refused (first_of (rule 6 x ∷ rule 7 (not y) ∷ [])))))
          → P (unless (first_of (rule 6 x ∷ rule 7 (not y) ∷ [])) (or_abandoned run))
      at true e y f n = n (λ (z : 6 ≡ 0). omega arith)
      at false e false f n = n (λ (z : 7 ≡ 0). omega arith)
      at false e true f n = let h = kept_of s v e in by run f h (carried-runs four s d f v h)
