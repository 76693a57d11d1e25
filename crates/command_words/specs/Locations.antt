-- Locations of chunks, and places of indexes. A word is its bytes.
use Rattle.std.specs.Prelude.{ℕ, ◌-◌, ◌==◌, ◌&&◌, ◌||◌, Bool, true, false, not, List, [], ◌∷◌, length, take, codes}
use Rattle.std.specs.Prelude.{None, is_some, option_map, unwrap_or, Result, Ok, Err, if◌then◌else◌, nat_eq, ◌≡◌, ◌≢◌}
use Rattle.std.specs.List.{starts_with, ends_with, list_any, slice_split}
use Rattle.std.specs.Str.{bytes_eq}
use Rattle.command_words.specs.declared.command.Location.{Location}
use Rattle.command_words.specs.declared.command.Location.TheVariants as location
use Rattle.command_words.specs.declared.location.IndexPlace.{IndexPlace}
use Rattle.command_words.specs.declared.location.IndexPlace.TheVariants as place
use Rattle.command_words.specs.declared.location.NoLocation.{NoLocation}
use Rattle.command_words.specs.declared.location.NoLocation.TheVariants as no
use Rattle.url.specs.Host.{host_text}
use Rattle.url.specs.Parser.{parse_url}
use Rattle.url.specs.Parts.{Parts, nonempty_host}
use Rattle.url.specs.declared.error.ParseError.{ParseError}
use Rattle.url.specs.declared.error.ParseError.TheVariants as url

-- `://` stands in the word
abbrev pub contains_scheme : List ℕ → Bool
contains_scheme [] = false
contains_scheme (c ∷ cs) = starts_with nat_eq (c ∷ cs) (codes "://") || contains_scheme cs

-- reading the URL took more memory than there is, or than `url` has for one
abbrev pub is_out_of_room : ParseError → Bool
is_out_of_room url.Overflow = true
is_out_of_room url.OutOfMemory = true
is_out_of_room other = false

-- an `http` URL with no user, password, query or fragment
abbrev pub is_plain_http : Parts → Bool
is_plain_http u =
    bytes_eq u.scheme (codes "http") && ((length u.username == 0) && ((length u.password == 0)
    && (not (is_some u.query) && not (is_some u.fragment))))

abbrev pub without_last_slash : List ℕ → List ℕ
without_last_slash path = if ends_with nat_eq path (codes "/") then take (length path - 1) path else path

abbrev pub host_of : Parts → List ℕ
host_of u = unwrap_or (option_map host_text (nonempty_host u)) []

-- the port of the URL, 80 where none is given
abbrev pub port_of : Parts → ℕ
port_of u = unwrap_or u.port 80

-- the host of the URL, its port, and its path without a last `/`
abbrev pub server_of : Parts → Location
server_of u = location.Http (host_of u) (port_of u) (without_last_slash u.path)

-- why no URL was read
abbrev pub no_url : ParseError → NoLocation
no_url e = if is_out_of_room e then no.Memory else no.Bad

abbrev pub url_location : Result Parts ParseError → Result Location NoLocation
url_location (Ok u) = if is_plain_http u then Ok (server_of u) else Err no.Bad
url_location (Err e) = Err (no_url e)

-- the location that a word names: no list of locations, and a URL where `://` stands in it, else a folder
abbrev pub location_of : List ℕ → Result Location NoLocation
location_of w =
    if list_any (λ c. c == 124) w then Err no.Bad
    else (if contains_scheme w then url_location (parse_url None w)
    else Ok (location.Folder w))

-- the words of a group of locations: what stands between the `|`
abbrev pub parts_of : List ℕ → List (List ℕ)
parts_of w = slice_split (λ c. c == 124) w

-- the word names one folder: it is no group, and no URL
abbrev pub names_folder : List ℕ → Bool
names_folder w = not (list_any (λ c. c == 124) w) && not (contains_scheme w)

-- an index of this name is asked for over HTTP, and is no file
abbrev pub is_index_url : List ℕ → Bool
is_index_url w = contains_scheme w

-- an `http` URL with no user, password, query or fragment, whose path names something
abbrev pub names_an_index : Parts → Bool
names_an_index u = is_plain_http u && not (bytes_eq u.path (codes "/"))

-- the host of the URL, its port, and its path, as it stands in a request
abbrev pub index_server_of : Parts → IndexPlace
index_server_of u = place.Http (host_of u) (port_of u) u.path

abbrev pub index_url : Result Parts ParseError → Result IndexPlace NoLocation
index_url (Ok u) = if names_an_index u then Ok (index_server_of u) else Err no.Bad
index_url (Err e) = Err (no_url e)

-- the place of the index that a word names: a URL where `://` stands in it, else a file
abbrev pub index_place_of : List ℕ → Result IndexPlace NoLocation
index_place_of w = if is_index_url w then index_url (parse_url None w) else Ok (place.File w)

-- the word names a place of an index, where there is memory to read it
abbrev pub NamesIndex : List ℕ → Type 0
NamesIndex w = index_place_of w ≢ Err no.Bad

-- what reading a location or a place may answer: want of memory is free
abbrev pub Locates : {P : Type 0} → Result P NoLocation → Result P NoLocation → Type 0
Locates expected (Ok l) = expected ≡ Ok l
Locates expected (Err no.Bad) = expected ≡ Err no.Bad
Locates expected (Err no.Memory) = Unit {0}
