mod ByKey
