-- The words for the dimensions, in policies, in commands and in print.
use Rattle.std.specs.Prelude.{ℕ, codes, List, [], ◌∷◌, Option, find, bytes_eq}
use Rattle.wh_policy.specs.declared.attribute.Dim.{Dim}
use Rattle.wh_policy.specs.declared.attribute.Dim.TheVariants.{Product, Store, Customer}

-- the word for a dimension
abbrev pub dim_word : Dim → List ℕ
dim_word Product = codes "product"
dim_word Store = codes "store"
dim_word Customer = codes "customer"

-- all dimensions that have members
abbrev pub every_dim : List Dim
every_dim = Product ∷ Store ∷ Customer ∷ []

-- the dimension of a word, if it is the word for one
abbrev pub dim_of_word : List ℕ → Option Dim
dim_of_word word = find (λ dim. bytes_eq word (dim_word dim)) every_dim
