mod Listed
mod Named
