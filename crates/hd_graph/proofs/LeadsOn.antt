-- Which link leads on from each part, while links join the lows one after the other.
use Rattle.std.proofs.Common.{◌≡◌, ◌≢◌, ◌⊎◌, ℕ, ◌+◌, ◌<◌, ◌≤◌, inl, inr, List, [], ◌∷◌, ◌++◌, length, Some, refl, sym, ◌∙◌, ap, subst, arith, slice_get, get_or, replicate, set}
use Rattle.std.proofs.lemmas.List.{get_or-replicate, length-replicate}
use Rattle.std.proofs.lemmas.Option.{get_or_from_slice_get, same_Some, slice_get_within}
use Rattle.hd_map.proofs.Levels.{here}
use Rattle.hd_map.specs.declared.types.Link.{Link}
use Rattle.hd_graph.specs.Classes.{AreLeastsOf, AreOneClass, IsLeast, Joins}
use Rattle.hd_graph.specs.Onward.{AreJoined, AreOnward, IsOnward, IsPart}
use Rattle.hd_graph.proofs.Connected.{AreConnected, class-joined, connected-join, connected-next, connected-none, connected-same}
use Rattle.hd_graph.proofs.Grows.{Grows, IsInEither, grows-joined, in_either-along}
use Rattle.hd_map.proofs.Places.{get-push_cases, get-set_cases, get-set_other, get-set_same, item_at}
use Rattle.hd_graph.proofs.AreOneClass.{AreSame, class-sym, class-trans, least-same, one-class, two-classes}

module _ (links : List Link) (count : ℕ) where
  -- the class of r is part e
  pub record IsTop (n : ℕ) (parents : List ℕ) (r e : ℕ) : Type 0 where
    pub x : ℕ
    pub t : ℕ
    pub part : IsPart links count e x t
    pub seen : t ≤ n
    pub one : AreOneClass parents r x
    pub whole : (v : ℕ) → AreOneClass parents x v → AreJoined links t x v

  -- no link leads on from part e yet, which is a class
  pub record IsOpen (parents parts : List ℕ) (e x t p : ℕ) : Type 0 where
    pub none : p ≡ length links
    pub top : (r : ℕ) → IsLeast parents r → AreOneClass parents r x → slice_get parts r ≡ Some e
    pub whole : (v : ℕ) → AreOneClass parents x v → AreJoined links t x v

  -- what is known after the first n links
  pub record LeadsSoFar (n : ℕ) (parents parts onward : List ℕ) : Type 0 where
    pub connected : AreConnected links n parents
    pub tops : (r e : ℕ) → IsLeast parents r → slice_get parts r ≡ Some e → IsTop n parents r e
    pub each : (e x t p : ℕ) → IsPart links count e x t → slice_get onward e ≡ Some p → ((p < n) × IsOnward links x t p) ⊎ IsOpen parents parts e x t p

  part-one : (e x t y s : ℕ) → IsPart links count e x t → IsPart links count e y s → (x ≡ y) × (t ≡ s)
  part-one e x t y s (inl h) (inl k) = (sym h.1 ∙ k.1, h.2 ∙ sym k.2)
  part-one e x t y s (inl h) (inr k) = absurd (let less = h.0 in let is = k.3 in omega arith)
  part-one e x t y s (inr h) (inl k) = absurd (let less = k.0 in let is = h.3 in omega arith)
  part-one e x t y s (inr h) (inr k) =
      let same : h.0 ≡ k.0 = omega (arith, h.3, k.3) in
      let is : h.1 ≡ k.1 = same_Some h.1 k.1 (sym h.2 ∙ ap (λ i. slice_get links i) same ∙ k.2) in
      (h.4 ∙ ap (λ (l : Link). l.a) is ∙ sym k.4, omega (arith, h.5, k.5, same))

  part-seen : (n e x t : ℕ) → IsPart links count e x t → e < count + n → t ≤ n
  part-seen n e x t (inl h) less = omega (arith, h.2)
  part-seen n e x t (inr h) less = omega (arith, h.3, h.5)

  -- at first each low is a part
  pub leads-none : (parents parts onward : List ℕ) → ((x y : ℕ) → AreOneClass parents x y → x ≡ y) → length parts ≡ count → ((x e : ℕ) → slice_get parts x ≡ Some e → e ≡ x) →
      onward ≡ replicate count (length links) → LeadsSoFar 0 parents parts onward
  leads-none parents parts onward own wide alone all = record {
    connected = connected-none links 0 parents own;
    tops = λ r e least at. (let inside = slice_get_within parts r e at in let is = alone r e at in
        record { x = r; t = 0; part = inl (omega (arith, inside, wide, is), is, refl); seen = omega arith; one = here; whole = joined_own r });
    each = λ e x t p part at. elim part [
      | inl h ↦ inr (record {
        none = sym (get_or_from_slice_get onward e p 0 at) ∙ ap (λ xs. get_or xs e 0) all ∙ get_or-replicate count e (length links) 0 h.0;
        top = λ r least one. (
            let is : r ≡ x = own r x one in
            let w = item_at parts r (omega (arith, is, h.0, h.1, wide)) in
            w.1 ∙ ap Some (alone r w.0 w.1 ∙ is ∙ sym h.1));
        whole = λ v one. subst (λ i. AreJoined links i x v) (sym h.2) (joined_own x v one);
      })
      | inr h ↦ absurd (let inside = slice_get_within onward e p at in let is = h.3 in let long = ap length all ∙ length-replicate {A = ℕ} count (length links) in omega arith)
    ];
  }
    where
      joined_own : (x v : ℕ) → AreOneClass parents x v → AreJoined links 0 x v
      joined_own x v one = subst (λ i. AreJoined links 0 x i) (own x v one) here

  -- other parents of the same classes
  leads-same : (n : ℕ) (old new parts onward : List ℕ) → AreSame old new → ((x : ℕ) → IsLeast new x → IsLeast old x) → LeadsSoFar n old parts onward → LeadsSoFar n new parts onward
  leads-same n old new parts onward same leasts so = record {
    connected = connected-same links n old new same so.connected;
    tops = λ r e least at. (let h = so.tops r e (leasts r least) at in record {
      x = h.x;
      t = h.t;
      part = h.part;
      seen = h.seen;
      one = (same r h.x).1 h.one;
      whole =
          λ v one. h.whole v ((same h.x v).0 one);
    });
    each = λ e x t p part at. elim (so.each e x t p part at) [
      | inl h ↦ inl h
      | inr h ↦ inr (record { none = h.none; top = λ r least one. h.top r (leasts r least) ((same r x).0 one); whole = λ v one. h.whole v ((same x v).0 one) })
    ];
  }

  -- at the end
  pub leads-all : (n : ℕ) (parents parts onward : List ℕ) → n ≡ length links → length onward ≡ count + n → LeadsSoFar n parents parts onward → AreOnward links count onward
  leads-all n parents parts onward past long so = record {
    long = omega (arith, past, long);
    each = λ e x t p part at. elim (so.each e x t p part at) [
      | inl h ↦ h.1
      | inr h ↦ record {
        later = (let inside = slice_get_within onward e p at in let seen = part-seen n e x t part (omega arith) in let is = h.none in omega arith);
        whole = λ v joined. h.whole v (class-joined links n parents so.connected (subst (λ i. AreJoined links i x v) (h.none ∙ sym past) joined));
        apart = λ l there joined. (let inside = slice_get_within links p l there in let is = h.none in omega arith);
        leads = λ l there. absurd (let inside = slice_get_within links p l there in let is = h.none in omega arith);
      }
    ];
  }

  -- a class is one of the parts
  pub top-inside : (n : ℕ) (parents : List ℕ) (r e : ℕ) → IsTop n parents r e → e < count + n
  top-inside n parents r e top = (let seen = top.seen in elim (top.part) [ inl h ↦ (let less = h.0 in omega arith) | inr h ↦ omega (arith, h.3, h.5, seen) ])

  -- a link within a class leads on from no part
  pub leads-skip : (n : ℕ) (was parents parts onward : List ℕ) → length onward ≡ count + n → (l : Link) (first second : ℕ) → slice_get links n ≡ Some l
      → AreLeastsOf was parents l.a l.b first second → first ≡ second → LeadsSoFar n was parts onward → LeadsSoFar (n + 1) parents parts (onward ++ length links ∷ [])
  leads-skip n was parents parts onward long l first second at found same so = record {
    connected = connected-next links n l at parents one now.connected;
    tops = λ r e least there. (let h = now.tops r e least there in record { x = h.x; t = h.t; part = h.part; seen = (let seen = h.seen in omega arith); one = h.one; whole = h.whole });
    each = λ e x t p part there. elim (get-push_cases onward (length links) p e there) [
      | inl h ↦ elim (now.each e x t p part h) [ inl was ↦ inl (let less = was.0 in omega arith, was.1) | inr was ↦ inr was ]
      | inr h ↦ elim part [
        | inl k ↦ absurd (let less = k.0 in omega (arith, h.0, long))
        | inr k ↦ absurd (
            let place : n ≡ k.0 = omega (arith, h.0, long, k.3) in
            let is : l ≡ k.1 = same_Some l k.1 (sym at ∙ ap (λ i. slice_get links i) place ∙ k.2) in
            k.6 (subst (λ i. AreJoined links i (k.1).a (k.1).b) place (subst (λ (m : Link). AreJoined links n m.a m.b) is ((now.connected).linked l.a l.b one))))
      ]
    ];
  }
    where
      now : LeadsSoFar n parents parts onward
      now = leads-same n was parents parts onward found.same (λ x h. (found.leasts x).0 h) so

      one : AreOneClass parents l.a l.b
      one = one-class was parents l.a l.b first second found same

  -- the next link joins the classes of first and second, which are the parts d and e
  module _ (n : ℕ) (was old parts onward : List ℕ) (so : LeadsSoFar n was parts onward) (l : Link) (at : slice_get links n ≡ Some l) (first second : ℕ)
      (found : AreLeastsOf was old l.a l.b first second) (not_same : first ≢ second) (long : length onward ≡ count + n) (d e : ℕ) (at_first : slice_get parts first ≡ Some d)
      (at_second : slice_get parts second ≡ Some e)
      (new : List ℕ) (r : ℕ) (joins : Joins old first second new) (in_one : AreOneClass new first r) (least : IsLeast new r) (leasts : (k : ℕ) → IsLeast new k → IsLeast old k)
      (inside : r < length parts) where
    now : LeadsSoFar n old parts onward
    now = leads-same n was old parts onward found.same (λ x h. (found.leasts x).0 h) so

    grows : Grows old new l.a l.b
    grows = grows-joined old new first second l.a l.b joins (class-sym old l.a first found.one) (class-sym old l.b second found.other)

    connected : AreConnected links (n + 1) new
    connected = connected-join links n l at old new first second joins found.one found.other now.connected

    a_new : AreOneClass new l.a r
    a_new = class-trans new l.a first r (grows.kept l.a first found.one) in_one

    in_new : (x : ℕ) → IsInEither old l.a l.b x → AreOneClass new x r
    in_new x (inl h) = class-trans new x l.a r (grows.kept x l.a h) a_new
    in_new x (inr h) = class-trans new x l.b r (grows.kept x l.b h) (class-trans new l.b l.a r (class-sym new l.a l.b grows.one) a_new)

    apart : AreJoined links n l.a l.b → ⊥
    apart joined = two-classes was old l.a l.b first second found not_same (class-joined links n old now.connected joined)

    -- the link leads on from both
    led : (q c x t : ℕ) → IsTop n old q c → IsPart links count c x t → AreOneClass old l.a q ⊎ AreOneClass old l.b q → IsOnward links x t n
    led q c x t top part touches =
        let is = part-one c top.x top.t x t top.part part in
        subst (λ i. IsOnward links i t n) is.0 (subst (λ i. IsOnward links top.x i n) is.1 (record {
          later = top.seen;
          whole = λ v joined. top.whole v (class-joined links n old now.connected joined);
          apart = λ m there. subst (λ (k : Link). AreJoined links n k.a k.b → ⊥) (same_Some l m (sym at ∙ there)) apart;
          leads = λ m there. (
              let same : l ≡ m = same_Some l m (sym at ∙ there) in
              subst (λ (k : Link). AreJoined links top.t top.x k.a ⊎ AreJoined links top.t top.x k.b) same (elim touches [
                | inl h ↦ inl (top.whole l.a (class-sym old l.a top.x (class-trans old l.a q top.x h top.one)))
                | inr h ↦ inr (top.whole l.b (class-sym old l.b top.x (class-trans old l.b q top.x h top.one)))
              ]));
        }))

    new_part : IsPart links count (count + n) l.a (n + 1)
    new_part = inr (n, l, at, refl, refl, refl, apart)

    more : List ℕ
    more = set parts r (count + n)

    new_open : (x t p : ℕ) → IsPart links count (count + n) x t → p ≡ length links → IsOpen new more (count + n) x t p
    unfolding more
    new_open x t p part none =
        let is = part-one (count + n) l.a (n + 1) x t new_part part in
        subst (λ i. IsOpen new more (count + n) i t p) is.0 (subst (λ i. IsOpen new more (count + n) l.a i p) is.1 (record {
          none = none;
          top = λ q least_q h. (
              let same : r ≡ q = least-same new r q least least_q (class-trans new r l.a q (class-sym new l.a r a_new) (class-sym new q l.a h)) in
              let w = item_at parts r inside in
              subst (λ i. slice_get (set parts r (count + n)) i ≡ Some (count + n)) same (get-set_same parts r (count + n) w.0 w.1));
          whole = λ v h. connected.linked l.a v h;
        }))

    -- other parts stay
    still_open : (c x t p : ℕ) → d ≢ c → e ≢ c → IsOpen old parts c x t p → IsOpen new more c x t p
    unfolding more
    still_open c x t p not_d not_e open_ = record {
      none = open_.none;
      top = λ q least_q h. elim (grows.cases q x h) [
        | inl k ↦ get-set_other parts r q (count + n) (λ same. away (along x q (class-sym old q x k) (subst (IsInEither old l.a l.b) same r_either))) ∙ open_.top q (leasts q least_q) k
        | inr k ↦ absurd (away k.1)
      ];
      whole = λ v h. elim (grows.cases x v h) [ inl k ↦ open_.whole v k | inr k ↦ absurd (away k.0) ];
    }
      where
        along : (y z : ℕ) → AreOneClass old y z → IsInEither old l.a l.b z → IsInEither old l.a l.b y
        along y z = in_either-along old l.a l.b y z

        away : IsInEither old l.a l.b x → ⊥
        away (inl h) = not_d (same_Some d c (sym at_first ∙ open_.top first found.first_least (class-sym old x first (class-trans old x l.a first h found.one))))
        away (inr h) = not_e (same_Some e c (sym at_second ∙ open_.top second found.second_least (class-sym old x second (class-trans old x l.b second h found.other))))

        r_either : IsInEither old l.a l.b r
        r_either = elim (grows.cases r first (class-sym new first r in_one)) [ inl k ↦ inl (class-trans old r first l.a k (class-sym old l.a first found.one)) | inr k ↦ k.0 ]

    top_more : (q c : ℕ) → IsLeast new q → slice_get more q ≡ Some c → IsTop (n + 1) new q c
    unfolding more
    top_more q c least_q there = elim (get-set_cases parts r q (count + n) c there) [
      | inl h ↦ record {
        x = l.a;
        t = n + 1;
        part = subst (λ i. IsPart links count i l.a
            (n + 1)) h.1 new_part;
        seen = omega arith;
        one = subst (λ i. AreOneClass new i l.a) h.0 (class-sym new l.a r a_new);
        whole = λ v k. connected.linked l.a v k;
      }
      | inr h ↦ (let top = now.tops q c (leasts q least_q) h.1 in record {
        x = top.x;
        t = top.t;
        part = top.part;
        seen = (let seen = top.seen in omega arith);
        one = grows.kept q top.x top.one;
        whole = λ v k. elim (grows.cases top.x v k) [
          | inl was ↦ top.whole v was
          | inr either ↦ absurd (h.0 (least-same new r q least least_q (class-sym new q r (class-trans new q top.x r (grows.kept q top.x top.one) (in_new top.x either.0)))))
        ];
      })
    ]

    pub leads-join : LeadsSoFar (n + 1) new (set parts r (count + n)) (set (set (onward ++ length links ∷ []) d n) e n)
    unfolding more
    leads-join = record {
      connected = connected;
      tops = top_more;
      each = λ c x t p part there. elim (get-set_cases (set (onward ++ length links ∷ []) d n) e c n p there) [
        | inl k ↦ inl (subst (λ i. (i < n + 1) × IsOnward links x t i) k.1 (
          omega arith,
          led second c x t
              (subst (IsTop n old second) k.0 (now.tops second e found.second_least at_second)) part (inr found.other),
        ))
        | inr k ↦ elim (get-set_cases (onward ++ length links ∷ []) d c n p k.1) [
          | inl j ↦ inl (subst (λ i. (i < n + 1) × IsOnward links x t i) j.1 (
            omega arith,
            led first c x t
                (subst (IsTop n old first) j.0 (now.tops first d found.first_least at_first)) part (inl found.one),
          ))
          | inr j ↦ elim (get-push_cases onward (length links) p c j.1) [
            | inl h ↦ elim (now.each c x t p part h) [
              | inl was ↦ inl (let less = was.0 in omega arith, was.1)
              | inr was ↦ inr (still_open c x t p j.0 k.0 was)
            ]
            | inr h ↦ inr (
                let is : c ≡ count + n = h.0 ∙ long in
                subst (λ i. IsOpen new (set parts r (count + n)) i x t p) (sym is) (new_open x t p (subst (λ i. IsPart links count i x t) is part) (sym h.1)))
          ]
        ]
      ];
    }
