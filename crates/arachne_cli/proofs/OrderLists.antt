-- The orders of a list of words, word by word.
use Rattle.std.proofs.Common.{◌≡◌, ℕ, suc, ◌+◌, ◌<◌, List, [], ◌∷◌, ◌++◌, length, take, drop, get_or, map, Option, Some, None, Result, Ok, Err, refl, sym, ap, ◌∙◌, arith}
use Rattle.std.specs.{Borrow.Bor, Result.result_err}
use Rattle.std.proofs.lemmas.List.{drop_more, length-map, length-take-le, map-append, take-append-drop, take_more}
use Rattle.arachne_policy.specs.declared.orders.CoreOrder.{CoreOrder}
use Rattle.arachne_cli.specs.Orders.{and_orders, order_of, orders_of}

-- one more order behind these
orders_append : (front : List (List ℕ)) (word : List ℕ) (orders : List CoreOrder) (order : CoreOrder) → orders_of front ≡ Ok orders → order_of word ≡ Some order
    → orders_of (front ++ word ∷ []) ≡ Ok (orders ++ order ∷ [])
orders_append [] word orders order e w =
    let none : [] ≡ orders = cc in
    rw (w, ← none) refl
orders_append (first ∷ front) word orders order e w =
    by_first (order_of first) (orders_of front) refl refl e (λ others o. orders_append front word others order o w)
  where
    by_first : (one : Option CoreOrder) (others : Result (List CoreOrder) ℕ) → order_of first ≡ one → orders_of front ≡ others → and_orders one others ≡ Ok orders
        → ((those : List CoreOrder) → orders_of front ≡ Ok those → orders_of (front ++ word ∷ []) ≡ Ok (those ++ order ∷ []))
        → and_orders (order_of first) (orders_of (front ++ word ∷ [])) ≡ Ok (orders ++ order ∷ [])
    by_first None others f o e more = absurd (cc)
    by_first (Some one) (Err index) f o e more = absurd (cc)
    by_first (Some one) (Ok others) f o e more =
        let same : one ∷ others ≡ orders = cc in
        rw (f, more others o, ← same) refl

-- the first word that is no order, behind words that are
orders_end : (front : List (List ℕ)) (word : List ℕ) (behind : List (List ℕ)) (orders : List CoreOrder) → orders_of front ≡ Ok orders → order_of word ≡ None
    → orders_of (front ++ word ∷ behind) ≡ Err (length front)
orders_end [] word behind orders e w = rw (w) refl
orders_end (first ∷ front) word behind orders e w =
    by_first (order_of first) (orders_of front) refl refl e (λ others o. orders_end front word behind others o w)
  where
    by_first : (one : Option CoreOrder) (others : Result (List CoreOrder) ℕ) → order_of first ≡ one → orders_of front ≡ others → and_orders one others ≡ Ok orders
        → ((those : List CoreOrder) → orders_of front ≡ Ok those → orders_of (front ++ word ∷ behind) ≡ Err (length front))
        → and_orders (order_of first) (orders_of (front ++ word ∷ behind)) ≡ Err (suc (length front))
    by_first None others f o e more = absurd (cc)
    by_first (Some one) (Err index) f o e more = absurd (cc)
    by_first (Some one) (Ok others) f o e more = rw (f, more others o) refl

-- ---- the words of the code

abbrev texts : List (Bor (List ℕ)) → List (List ℕ)
texts = map (λ word. word.now)

-- the order of the next word comes behind those so far
pub next_order : (words : List (Bor (List ℕ))) (i : ℕ) (default : Bor (List ℕ)) (orders : List CoreOrder) (order : CoreOrder) → i < length words
    → orders_of (texts (take i words)) ≡ Ok orders → order_of ((get_or words i default).now) ≡ Some order
    → orders_of (texts (take (i + 1) words)) ≡ Ok (orders ++ order ∷ [])
next_order words i default orders order below so_far next =
    ap (λ front. orders_of (texts front)) (take_more words i default below)
    ∙ ap orders_of (map-append (λ (word : Bor (List ℕ)). word.now) (take i words) (get_or words i default ∷ []))
    ∙ orders_append (texts (take i words)) ((get_or words i default).now) orders order so_far next

-- the next word is the first that is no order
pub no_order : (words : List (Bor (List ℕ))) (i : ℕ) (default : Bor (List ℕ)) (orders : List CoreOrder) → i < length words
    → orders_of (texts (take i words)) ≡ Ok orders → order_of ((get_or words i default).now) ≡ None
    → result_err (orders_of (texts words)) ≡ Some i
no_order words i default orders below so_far next =
    let all : words ≡ take i words ++ get_or words i default ∷ drop (i + 1) words =
    sym (take-append-drop i words) ∙ ap (λ (u : List (Bor (List ℕ))). take i words ++ u) (drop_more words i default below) in
    let split : texts words ≡ texts (take i words) ++ (get_or words i default).now ∷ texts (drop (i + 1) words) =
    ap texts all ∙ map-append (λ (word : Bor (List ℕ)). word.now) (take i words) (get_or words i default ∷ drop (i + 1) words) in
    let count : length (texts (take i words)) ≡ i =
    length-map (take i words) (λ (word : Bor (List ℕ)). word.now) ∙ length-take-le i words (omega (arith, below)) in
    ap result_err (ap orders_of split ∙ orders_end (texts (take i words)) ((get_or words i default).now) (texts (drop (i + 1) words)) orders so_far next)
    ∙ ap (λ n. Some n) count
