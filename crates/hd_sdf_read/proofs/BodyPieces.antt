-- What follows a header, as what its keys say and the data and the trailer behind it.
use Rattle.std.proofs.Common.{◌≡◌, ℕ, List, Result, Ok, Err, refl}
use Rattle.hd_map.specs.Map.{cell_count}
use Rattle.hd_sdf_read.specs.declared.error.SdfError.{SdfError}
use Rattle.hd_sdf_read.specs.declared.file.Extra.{Extra}
use Rattle.hd_sdf_read.specs.declared.file.Version.{Version}
use Rattle.hd_sdf_read.specs.Bodies.{Surveyed, surveyed, trailed}
use Rattle.hd_sdf_read.specs.File.{File}
use Rattle.hd_sdf_read.specs.Grammar.{Mapped, body_in, file_with, mapped, trailer_of}
use Rattle.hd_sdf_read.specs.RequiredKeys.{RequiredKeys, required_keys_of}
use Rattle.hd_sdf_read.specs.Reads.{◌>>=◌}

module _ (version : Version) (entries : List Extra) (keys : RequiredKeys) where
  -- the file of a map and a trailer
  abbrev pub filed_with : Surveyed → Result File SdfError
  filed_with s = Ok (file_with version entries keys s.map s.trailer)

  -- a trailer behind a map
  abbrev behind : Mapped → List ℕ → Result Surveyed SdfError
  behind parts t = Ok (record { map = parts.map; trailer = t })

  by_trailer : (parts : Mapped) (trailer : Result (List ℕ) SdfError)
      → (trailer >>= (λ t. Ok (file_with version entries keys parts.map t))) ≡ ((trailer >>= behind parts) >>= filed_with)
  by_trailer parts (Ok t) = refl
  by_trailer parts (Err e) = refl

  by_map : (found : Result Mapped SdfError)
      → (found >>= (λ parts. trailer_of (cell_count keys.size) parts.rest >>= (λ t. Ok (file_with version entries keys parts.map t)))) ≡ ((found >>= trailed keys.size) >>= filed_with)
  unfolding trailed
  by_map (Ok parts) = by_trailer parts (trailer_of (cell_count keys.size) parts.rest)
  by_map (Err e) = refl

  -- the text behind the header
  pub body_in-begins : (text : List ℕ) → required_keys_of entries ≡ Ok keys → body_in version entries text ≡ (surveyed keys.size keys.data_type text >>= filed_with)
  unfolding body_in surveyed
  body_in-begins text found = rw found (by_map (mapped keys.size keys.data_type text))
